-- Stores that lie apart can change places.
use Rattle.std.specs.Prelude.{◌+◌, ◌*◌, ◌/◌, ◌%◌, ◌≤◌, ◌<◌, ◌≡◌, ◌∷◌}
use Rattle.integers.specs.Basics.{ℕ, zero, suc, refl, ◌∙◌, ap, List, [], length, set, arith}
use lib.Seq.{set_comm}
use Rattle.words.specs.Bytes.{store}
use Rattle.words.specs.Words.{put_word, put_words}

-- f can be done before or after any store to byte i
abbrev pub Passes : (List ℕ → List ℕ) → ℕ → Type 0
Passes f i = (m : List ℕ) (v : ℕ) → f (set m i v) ≡ set (f m) i v

-- ---- a store passes the bytes outside it
store_passes : (i n a x : ℕ) → (a ≤ i → i < a + n → ⊥) → Passes (λ m. store n m a x) i
unfolding store
store_passes i zero a x outside m v = refl
store_passes i (suc n) a x outside m v =
    ap (λ (l : List ℕ). store n l (a + 1) (x / 256)) (set_comm m i a v (x % 256) (λ e. outside (omega arith) (omega arith)))
    ∙ store_passes i n (a + 1) (x / 256) (λ low high. outside (omega arith) (omega arith)) (set m a (x % 256)) v

pub words_pass : (i : ℕ) (vs : List ℕ) (k : ℕ) → (k ≤ i / 8 → i / 8 < k + length vs → ⊥) → Passes (λ m. put_words m k vs) i
unfolding put_words put_word
words_pass i [] k outside m v = refl
words_pass i (x ∷ vs) k outside m v =
    ap (λ (l : List ℕ). put_words l (k + 1) vs) (store_passes i 8 (k * 8) x (λ low high. outside (omega arith) (omega arith)) m v)
    ∙ words_pass i vs (k + 1) (λ low high. outside (omega arith) (omega arith)) (put_word m k x) v

-- ---- what passes each byte of a store passes the store
module _ (f : List ℕ → List ℕ) where
  past_store : (n a x : ℕ) → ((i : ℕ) → a ≤ i → i < a + n → Passes f i) → (m : List ℕ) → f (store n m a x) ≡ store n (f m) a x
  unfolding store
  past_store zero a x passes m = refl
  past_store (suc n) a x passes m =
      past_store n (a + 1) (x / 256) (λ i low high. passes i (omega arith) (omega arith)) (set m a (x % 256))
      ∙ ap (λ (l : List ℕ). store n l (a + 1) (x / 256)) (passes a (omega arith) (omega arith) m (x % 256))

  pub past_words : (vs : List ℕ) (k : ℕ) → ((i : ℕ) → k ≤ i / 8 → i / 8 < k + length vs → Passes f i) → (m : List ℕ)
      → f (put_words m k vs) ≡ put_words (f m) k vs
  unfolding put_words put_word
  past_words [] k passes m = refl
  past_words (x ∷ vs) k passes m =
      past_words vs (k + 1) (λ i low high. passes i (omega arith) (omega arith)) (put_word m k x)
      ∙ ap (λ (l : List ℕ). put_words l (k + 1) vs) (past_store 8 (k * 8) x (λ i low high. passes i (omega arith) (omega arith)) m)

-- a word, and the words behind it
pub put_past_words : (vs m : List ℕ) (j k v : ℕ) → j < k → put_word (put_words m k vs) j v ≡ put_words (put_word m j v) k vs
unfolding put_word
put_past_words vs m j k v h =
    past_words (λ l. put_word l j v) vs k (λ i low high. store_passes i 8 (j * 8) v (λ a b. omega arith)) m
