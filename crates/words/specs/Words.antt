-- A list of bytes as little-endian words of 64 bits: word k is bytes 8 k to 8 k + 7.
use Rattle.std.specs.Prelude.{◌+◌, ◌*◌, ◌/◌, ◌%◌, ◌^◌, ◌<◌, ◌∷◌}
use Rattle.integers.specs.Basics.{ℕ, zero, suc, List, [], ℤ, get_or, take, drop}
use Rattle.integers.specs.TwosComplement.{signed_of, bits_of}
use Rattle.words.specs.Bytes.{number, store}

-- every element is a word
abbrev pub AreWords : List ℕ → Type 0
AreWords vs = (i : ℕ) → get_or vs i 0 < 2 ^ 64

-- word k of m
unfoldable pub word_at : List ℕ → ℕ → ℕ
word_at m k = number 8 m (k * 8)

-- m with v as its word k
unfoldable pub put_word : List ℕ → ℕ → ℕ → List ℕ
put_word m k v = store 8 m (k * 8) v

-- the halves of a word, of 32 bits each, and the word of two halves
abbrev pub lower : ℕ → ℕ
lower w = w % 2 ^ 32

abbrev pub upper : ℕ → ℕ
upper w = w / 2 ^ 32

abbrev pub halves : ℕ → ℕ → ℕ
halves x y = x + 2 ^ 32 * y

-- word k of m as a signed number, in two's complement
unfoldable pub signed_at : List ℕ → ℕ → ℤ
signed_at m k = signed_of 64 (word_at m k)

-- m with the signed number z as its word k
unfoldable pub put_signed : List ℕ → ℕ → ℤ → List ℕ
put_signed m k z = put_word m k (bits_of 64 z)

-- the n words of m from word k on
unfoldable pub words_at : List ℕ → ℕ → ℕ → List ℕ
words_at m k zero = []
words_at m k (suc n) = word_at m k ∷ words_at m (k + 1) n

-- m with the words vs from word k on
unfoldable pub put_words : List ℕ → ℕ → List ℕ → List ℕ
put_words m k [] = m
put_words m k (v ∷ vs) = put_words (put_word m k v) (k + 1) vs

-- the bytes of the n words of m from word k on
unfoldable pub part_of : List ℕ → ℕ → ℕ → List ℕ
part_of m k n = take (n * 8) (drop (k * 8) m)
