-- Laws of runs of words.
use Rattle.std.specs.Prelude.{◌+◌, ◌*◌, ◌≤◌, ◌<◌, ◌≡◌, ◌≢◌, ◌∷◌}
use Rattle.integers.specs.Basics.{ℕ, zero, suc, refl, ◌∙◌, ap, List, [], length, get_or, arith}
use Rattle.words.specs.Bytes.{Bytes}
use Rattle.words.specs.Words.{AreWords, word_at, put_word, words_at, put_words}
use Rattle.words.proofs.Memory.{length_put, bytes_put, word_put_same, word_put_other, put_back}

pub words_put_other : (m : List ℕ) (i v k n : ℕ) → ((j : ℕ) → j < n → i ≢ k + j) → words_at (put_word m i v) k n ≡ words_at m k n
unfolding words_at
words_put_other m i v k zero apart = refl
words_put_other m i v k (suc n) apart =
    rw (
      word_put_other m i v k (λ e. apart 0 (omega arith) (omega arith)),
      words_put_other m i v (k + 1) n
          (λ j h e. apart (j + 1) (omega arith) (omega arith)),
    )

pub length_puts : (m : List ℕ) (k : ℕ) (vs : List ℕ) → length (put_words m k vs) ≡ length m
unfolding put_words
length_puts m k [] = refl
length_puts m k (v ∷ vs) = length_puts (put_word m k v) (k + 1) vs ∙ length_put m k v

pub bytes_puts : (m : List ℕ) (k : ℕ) (vs : List ℕ) → Bytes m → Bytes (put_words m k vs)
unfolding put_words
bytes_puts m k [] bytes = bytes
bytes_puts m k (v ∷ vs) bytes = bytes_puts (put_word m k v) (k + 1) vs (bytes_put m k v bytes)

pub word_puts_other : (m : List ℕ) (k : ℕ) (vs : List ℕ) (j : ℕ) → ((i : ℕ) → i < length vs → j ≢ k + i)
    → word_at (put_words m k vs) j ≡ word_at m j
unfolding put_words
word_puts_other m k [] j apart = refl
word_puts_other m k (v ∷ vs) j apart =
    word_puts_other (put_word m k v) (k + 1) vs j (λ i h e. apart (i + 1) (omega arith) (omega arith))
    ∙ word_put_other m k v j (λ e. apart 0 (omega arith) (omega arith))

pub word_puts_same : (m : List ℕ) (k : ℕ) (vs : List ℕ) (j : ℕ) → (k + length vs) * 8 ≤ length m → AreWords vs → j < length vs
    → word_at (put_words m k vs) (k + j) ≡ get_or vs j 0
unfolding put_words
word_puts_same m k [] j fits small h = absurd (omega arith)
word_puts_same m k (v ∷ vs) zero fits small h =
    let z : k + 0 ≡ k = omega arith in
    rw z
    (word_puts_other (put_word m k v) (k + 1) vs k (λ i g e. omega arith)
    ∙ word_put_same m k v (omega arith) (small 0))
word_puts_same m k (v ∷ vs) (suc j) fits small h =
    let s : k + suc j ≡ k + 1 + j = omega arith in
    let long : (k + 1 + length vs) * 8 ≤ length (put_word m k v) = rw length_put (omega arith) in
    rw s (word_puts_same (put_word m k v) (k + 1) vs j long (λ i. small (suc i)) (omega arith))

-- words stored where they stand change nothing
pub puts_back : (m : List ℕ) (k n : ℕ) → Bytes m → put_words m k (words_at m k n) ≡ m
unfolding words_at put_words
puts_back m k zero bytes = refl
puts_back m k (suc n) bytes =
    ap (λ (l : List ℕ). put_words l (k + 1) (words_at m (k + 1) n)) (put_back m k bytes)
    ∙ puts_back m (k + 1) n bytes

-- a run of a + b words is stored as its first a and the b behind them
pub puts_more : (l : List ℕ) (j : ℕ) (m : List ℕ) (k a b : ℕ)
    → put_words l j (words_at m k (a + b)) ≡ put_words (put_words l j (words_at m k a)) (j + a) (words_at m (k + a) b)
unfolding words_at put_words
puts_more l j m k zero b =
    let e : j + 0 ≡ j = omega arith in
    let f : k + 0 ≡ k = omega arith in
    let z : 0 + b ≡ b = omega arith in
    rw (e, f, z)
puts_more l j m k (suc a) b =
    let e : j + suc a ≡ j + 1 + a = omega arith in
    let f : k + suc a ≡ k + 1 + a = omega arith in
    let t : suc a + b ≡ suc (a + b) = omega arith in
    rw (e, f, t) (puts_more (put_word l j (word_at m k)) (j + 1) m (k + 1) a b)
