-- Laws of a memory as words: what a stored word changes and what it leaves.
use Rattle.std.specs.Prelude.{◌+◌, ◌*◌, ◌/◌, ◌^◌, ◌≤◌, ◌<◌, ◌≡◌, ◌≢◌}
use Rattle.integers.specs.Basics.{ℕ, List, length, get_or, arith}
use Rattle.words.specs.Bytes.{Bytes}
use Rattle.words.specs.Words.{word_at, put_word}
use Rattle.words.proofs.Numbers.{length_store, byte_store_other, number_store_other, number_store_same, number_below, store_back}
use Rattle.words.proofs.Numbers.{store_bytes}

pub length_put : (m : List ℕ) (k v : ℕ) → length (put_word m k v) ≡ length m
unfolding put_word
length_put m k v = length_store 8 m (k * 8) v

pub bytes_put : (m : List ℕ) (k v : ℕ) → Bytes m → Bytes (put_word m k v)
unfolding put_word
bytes_put m k v = store_bytes 8 m (k * 8) v

pub word_below : (m : List ℕ) (k : ℕ) → Bytes m → word_at m k < 2 ^ 64
unfolding word_at
word_below m k = number_below 8 m (k * 8)

pub word_put_same : (m : List ℕ) (k v : ℕ) → k * 8 + 8 ≤ length m → v < 2 ^ 64 → word_at (put_word m k v) k ≡ v
unfolding word_at put_word
word_put_same m k v fits below = number_store_same 8 m (k * 8) v fits below

pub word_put_other : (m : List ℕ) (k v j : ℕ) → j ≢ k → word_at (put_word m k v) j ≡ word_at m j
unfolding word_at put_word
word_put_other m k v j other =
    number_store_other 8 8 m (k * 8) v (j * 8) (λ i h a b e. other (omega arith))

-- a byte outside the word is as it was
pub byte_put_other : (m : List ℕ) (k v i : ℕ) → i / 8 ≢ k → get_or (put_word m k v) i 0 ≡ get_or m i 0
unfolding put_word
byte_put_other m k v i other = byte_store_other 8 m (k * 8) v i (λ j h e. other (omega arith))

-- a word stored where it stands changes nothing
pub put_back : (m : List ℕ) (k : ℕ) → Bytes m → put_word m k (word_at m k) ≡ m
unfolding word_at put_word
put_back m k = store_back 8 m (k * 8)
