-- A loop that compares the bytes of a literal l with those of s from a place on, byte by byte or n at once, as one number.
use Rattle.std.specs.Prelude.{◌+◌, ◌-◌, ◌≤◌, ◌<◌, ◌≡◌}
use Rattle.integers.specs.Basics.{ℕ, zero, suc, refl, ◌∙◌, sym, by_cases, true, false, List, length, get_or, drop}
use Rattle.integers.specs.Basics.{ℕ_discrete, arith}
use lib.ListN.{length-drop}
use Rattle.words.specs.Bytes.{Bytes, number}
use Rattle.grammar.specs.Reader.{starts, literal_at}
use Rattle.grammar.proofs.Starts.{starts_done, starts_on, starts_off, starts_short}

-- the first i bytes are the same, so that the others decide
pub record Compared (s l : List ℕ) (at i : ℕ) : Type 0 where
  pub within : i ≤ length l
  pub answer : literal_at s l at ≡ starts (drop i l) (drop (at + i) s)

module _ (s l : List ℕ) (at : ℕ) where
  -- too few bytes are left
  pub none_fit : length s - at < length l → literal_at s l at ≡ false
  none_fit h = starts_short l (drop at s) (rw length-drop h)

  pub compared_none : Compared s l at 0
  compared_none = let here : at + 0 ≡ at = omega arith in record { within = omega arith; answer = rw here }

  pub compared_all : (i : ℕ) → Compared s l at i → length l ≤ i → literal_at s l at ≡ true
  compared_all i was h = was.answer ∙ starts_done l s i (at + i) h

  module _ (fits : at + length l ≤ length s) where
    pub one_same : (i : ℕ) → Compared s l at i → i < length l → get_or s (at + i) 0 ≡ get_or l i 0 → Compared s l at (i + 1)
    one_same i was h e =
        let place : at + (i + 1) ≡ at + i + 1 = omega arith in
        record { within = omega arith; answer = was.answer ∙ starts_on l s i (at + i) h (omega arith) (sym e) ∙ rw place }

    pub one_other : (i : ℕ) → Compared s l at i → i < length l → (get_or s (at + i) 0 ≡ get_or l i 0 → ⊥) → literal_at s l at ≡ false
    one_other i was h ne = was.answer ∙ starts_off l s i (at + i) h (omega arith) (λ e. ne (sym e))

    pub all_same : Bytes s → Bytes l → (n i : ℕ) → Compared s l at i → i + n ≤ length l → number n s (at + i) ≡ number n l i
        → Compared s l at (i + n)
    unfolding number
    all_same bytes-s bytes-l zero i was h e = let here : i + 0 ≡ i = omega arith in rw here was
    all_same bytes-s bytes-l (suc n) i was h e =
        let more : i + suc n ≡ i + 1 + n = omega arith in
        let place : at + (i + 1) ≡ at + i + 1 = omega arith in
        let first : get_or s (at + i) 0 ≡ get_or l i 0 = omega (arith, bytes-s (at + i), bytes-l i) in
        rw more (all_same bytes-s bytes-l n (i + 1) (one_same i was (omega arith) first) (omega arith) (rw place (omega arith)))

    pub some_other : (n i : ℕ) → Compared s l at i → i + n ≤ length l → (number n s (at + i) ≡ number n l i → ⊥) → literal_at s l at ≡ false
    unfolding number
    some_other zero i was h ne = absurd (ne refl)
    some_other (suc n) i was h ne =
        let place : at + (i + 1) ≡ at + i + 1 = omega arith in
        by_cases (ℕ_discrete (get_or s (at + i) 0) (get_or l i 0))
        (λ same. some_other n (i + 1) (one_same i was (omega arith) same) (omega arith)
        (λ e. let others = rw place at e in ne (omega arith)))
        (λ other. one_other i was (omega arith) other)

pub ruleset compared = (none_fit, compared_none, compared_all, one_same, one_other)
