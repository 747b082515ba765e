-- Runs of stores: what is cleared, and what is written number by number.
use Rattle.std.specs.Prelude.{◌+◌, ◌-◌, ◌*◌, ◌/◌, ◌%◌, ◌≤◌, ◌<◌, ◌≡◌, ◌≢◌, ◌++◌}
use Rattle.std.proofs.Math.ListN.{replicate, get_or-append}
use Rattle.std.proofs.lemmas.List.{length-append, length-replicate, length-take-le, length-drop, get_or-append_right, get_or-drop}
use Rattle.std.proofs.lemmas.List.{get_or-replicate}
use Rattle.std.proofs.lemmas.Grind.{same_number_lists}
use Rattle.integers.specs.Basics.{ℕ, zero, suc, refl, ◌∙◌, sym, ap, by_cases, List, length, get_or, take, drop, ℕ_discrete, arith}
use native.Mathlib.Decide.{dec_lt}
use Rattle.words.specs.Bytes.{Bytes, number}
use Rattle.words.specs.Words.{word_at}
use Rattle.words.proofs.Memory.{length_put, bytes_put, byte_put_other, word_put_same, word_put_other}
use Rattle.memory_layout.specs.Opening.{cleared, written}

-- ---- cleared words
-- the bytes of the number 0
bytes_of_zero : (m : List ℕ) (n a j : ℕ) → number n m a ≡ 0 → j < n → get_or m (a + j) 0 ≡ 0
unfolding number
bytes_of_zero m zero a j e h = absurd (omega arith)
bytes_of_zero m (suc n) a zero e h = let here : a + 0 ≡ a = omega arith in rw here (omega arith)
bytes_of_zero m (suc n) a (suc j) e h =
    let here : a + suc j ≡ a + 1 + j = omega arith in
    rw here (bytes_of_zero m n (a + 1) j (omega arith) (omega arith))

module _ (m : List ℕ) where
  pub cleared_length : (n : ℕ) → length (cleared m n) ≡ length m
  unfolding cleared
  cleared_length zero = refl
  cleared_length (suc n) = length_put (cleared m n) n 0 ∙ cleared_length n

  pub cleared_bytes : (n : ℕ) → Bytes m → Bytes (cleared m n)
  unfolding cleared
  cleared_bytes zero bytes = bytes
  cleared_bytes (suc n) bytes = bytes_put (cleared m n) n 0 (cleared_bytes n bytes)

  -- a byte behind the cleared words is as it was
  pub cleared_byte : (n i : ℕ) → n * 8 ≤ i → get_or (cleared m n) i 0 ≡ get_or m i 0
  unfolding cleared
  cleared_byte zero i h = refl
  cleared_byte (suc n) i h =
      byte_put_other (cleared m n) n 0 i (λ e. omega arith) ∙ cleared_byte n i (omega arith)

  pub cleared_word : (n k : ℕ) → n * 8 ≤ length m → k < n → word_at (cleared m n) k ≡ 0
  unfolding cleared
  cleared_word zero k fits h = absurd (omega arith)
  cleared_word (suc n) k fits h =
      by_cases (ℕ_discrete k n) (λ same. rw same (word_put_same (cleared m n) n 0 (omega (arith, cleared_length n)) (omega arith)))
      (λ other. word_put_other (cleared m n) n 0 k other ∙ cleared_word n k (omega arith) (omega (arith, other)))

  -- the n words cleared at once
  cleared_zero : (n i : ℕ) → n * 8 ≤ length m → i < n * 8 → get_or (cleared m n) i 0 ≡ 0
  unfolding word_at
  cleared_zero n i fits h =
      let e : i / 8 * 8 + i % 8 ≡ i = omega arith in
      rw e at (bytes_of_zero (cleared m n) 8 (i / 8 * 8) (i % 8) (cleared_word n (i / 8) fits (omega arith)) (omega arith))

  pub cleared_fill : (n : ℕ) (zeros : List ℕ) → n * 8 ≤ length m → zeros ≡ replicate (length (take (n * 8) m)) 0
      → zeros ++ drop (n * 8) m ≡ cleared m n
  cleared_fill n zeros fits e =
      let size : length zeros ≡ n * 8 = ap length e ∙ length-replicate _ 0 ∙ length-take-le (n * 8) m fits in
      same_number_lists _ _ (omega (arith, length-append zeros (drop (n * 8) m), length-drop (n * 8) m, size, cleared_length n))
      (λ k _. by_cases (dec_lt k (n * 8))
      (λ h. get_or-append zeros _ 0 k (omega (arith, size)) ∙ ap (λ l. get_or l k 0) e ∙ get_or-replicate _ k 0 0
      (omega (arith, length-take-le (n * 8) m fits)) ∙ sym (cleared_zero n k fits h))
      (λ h. let past : n * 8 ≤ k = omega (arith, h) in
      let there : n * 8 + (k - n * 8) ≡ k = omega arith in
      get_or-append_right zeros _ (n * 8) k 0 size past ∙ get_or-drop (n * 8) m (k - n * 8) 0 ∙ ap (λ i. get_or m i 0) there
      ∙ sym (cleared_byte n k past)))

-- ---- numbers 1 to n written, each by `put`
module _ (put : List ℕ → ℕ → List ℕ) where
  pub written_none : (m : List ℕ) → written put m 0 ≡ m
  unfolding written
  written_none m = refl

  pub written_length : ((l : List ℕ) (k : ℕ) → length (put l k) ≡ length l) → (m : List ℕ) (n : ℕ) → length (written put m n) ≡ length m
  unfolding written
  written_length same m zero = refl
  written_length same m (suc n) = same (written put m n) (suc n) ∙ written_length same m n

  pub written_bytes : ((l : List ℕ) (k : ℕ) → Bytes l → Bytes (put l k)) → (m : List ℕ) (n : ℕ) → Bytes m → Bytes (written put m n)
  unfolding written
  written_bytes kept m zero bytes = bytes
  written_bytes kept m (suc n) bytes = kept (written put m n) (suc n) (written_bytes kept m n bytes)

  -- what no store of the run changes is as it was
  pub written_keeps : {A : Type 0} (of : List ℕ → A) (m : List ℕ) (n : ℕ) → ((l : List ℕ) (k : ℕ) → 1 ≤ k → k ≤ n → of (put l k) ≡ of l)
      → of (written put m n) ≡ of m
  unfolding written
  written_keeps of m zero same = refl
  written_keeps of m (suc n) same =
      same (written put m n) (suc n) (omega arith) (omega arith)
      ∙ written_keeps of m n (λ l k low high. same l k low (omega arith))

  -- what number k writes, and no other number changes, stands there at the end
  pub written_there : {A : Type 0} (of : List ℕ → A) (x : A) (m : List ℕ) (k : ℕ) → ((l : List ℕ) → length l ≡ length m → of (put l k) ≡ x)
      → ((l : List ℕ) (j : ℕ) → j ≢ k → of (put l j) ≡ of l) → ((l : List ℕ) (j : ℕ) → length (put l j) ≡ length l) → (n : ℕ) → 1 ≤ k
      → k ≤ n → of (written put m n) ≡ x
  unfolding written
  written_there of x m k here others long zero low high = absurd (omega arith)
  written_there of x m k here others long (suc n) low high =
      by_cases (ℕ_discrete k (suc n)) (λ same. rw (← same) (here (written put m n) (written_length long m n)))
      (λ other. others (written put m n) (suc n) (λ e. other (sym e))
      ∙ written_there of x m k here others long n low (omega (arith, other)))

pub written_same : (f g : List ℕ → ℕ → List ℕ) (m : List ℕ) (n : ℕ) → ((l : List ℕ) (k : ℕ) → 1 ≤ k → k ≤ n → f l k ≡ g l k)
    → written f m n ≡ written g m n
unfolding written
written_same f g m zero same = refl
written_same f g m (suc n) same =
    same (written f m n) (suc n) (omega arith) (omega arith)
    ∙ ap (λ l. g l (suc n)) (written_same f g m n (λ l k low high. same l k low (omega arith)))

-- ---- a loop that writes them: before turn i those below i are written
pub written_turn : (put : List ℕ → ℕ → List ℕ) (first : List ℕ) {m after : List ℕ} {i j : ℕ} → m ≡ written put first (i - 1) → 1 ≤ i
    → after ≡ put m i → j ≡ i → after ≡ written put first j
unfolding written
written_turn put first {i = i} was low stored end =
    let turn : i ≡ suc (i - 1) = omega arith in
    rw (end, turn) (stored ∙ ap (λ l. put l i) was ∙ ap (put (written put first (i - 1))) turn)
