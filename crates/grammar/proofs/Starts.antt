-- Laws of bytes that begin with others: turn by turn, for a loop that compares; where they do; and where they cannot, since they differ.
use Rattle.std.specs.Prelude.{◌+◌, ◌≤◌, ◌<◌, ◌≡◌, ◌∷◌, ◌++◌}
use Rattle.integers.specs.Basics.{ℕ, refl, sym, ap, true, false, false≢true, List, [], None, Some, eqb, length, get_or}
use Rattle.integers.specs.Basics.{drop, arith, eqb-true, eqb-false, eq-eqb, ne_eqb}
use mathlib.Core.Bool.{and-eq-true_iff}
use lib.ListN.{drop_of_length-le, length-append, length-drop}
use lib.Seq.{drop-cons}
use native.Mathlib.Numerals.{add-one}
use Rattle.grammar.specs.Reader.{starts, literal_at}
use Rattle.grammar.specs.Place.{Place, place}
use Rattle.grammar.specs.Found.{past_literal}
use Rattle.grammar.specs.Readable.{apart}
use Rattle.grammar.proofs.Tests.{by_test}

-- ---- turn by turn: byte i of a literal l beside byte p of s
module _ (l s : List ℕ) (i p : ℕ) where
  pub starts_done : length l ≤ i → starts (drop i l) (drop p s) ≡ true
  unfolding starts
  starts_done h = rw (drop_of_length-le l h)

  pub starts_on : i < length l → p < length s → get_or l i 0 ≡ get_or s p 0
      → starts (drop i l) (drop p s) ≡ starts (drop (i + 1) l) (drop (p + 1) s)
  unfolding starts
  starts_on h g e = rw (drop-cons l i 0, drop-cons s p 0, eq-eqb (get_or l i 0) (get_or s p 0) e, add-one i, add-one p)

  pub starts_off : i < length l → p < length s → (get_or l i 0 ≡ get_or s p 0 → ⊥) → starts (drop i l) (drop p s) ≡ false
  unfolding starts
  starts_off h g ne = rw (drop-cons l i 0, drop-cons s p 0, ne_eqb (get_or l i 0) (get_or s p 0) ne)

-- what code finds of a literal: the place behind it, or none
module _ (s l : List ℕ) (p : ℕ) where
  pub literal_stands : {q : Place} → past_literal s l p ≡ Some q → (literal_at s l p ≡ true) × (place s (p + length l) ≡ q)
  literal_stands {q} e =
      by_test (literal_at s l p) (λ t. let same : Some (place s (p + length l)) ≡ Some q = rw t at e in (t, cc))
      (λ t. absurd (let same : None ≡ Some q = rw t at e in cc))

  pub literal_missing : past_literal s l p ≡ None → literal_at s l p ≡ false
  literal_missing e = by_test (literal_at s l p) (λ t. absurd (let same : Some (place s (p + length l)) ≡ None = rw t at e in cc)) (λ t. t)

-- ---- where they begin with them
pub starts_append : (l y : List ℕ) → starts l (l ++ y) ≡ true
unfolding starts
starts_append [] y = refl
starts_append (b ∷ l) y = rw (eq-eqb b b refl) (starts_append l y)

pub starts_split : (l s : List ℕ) → starts l s ≡ true → s ≡ l ++ drop (length l) s
unfolding starts
starts_split [] s h = refl
starts_split (b ∷ l) [] h = absurd (false≢true h)
starts_split (b ∷ l) (c ∷ s) h =
    let both = (and-eq-true_iff (eqb b c) (starts l s)).0 h in
    rw (eqb-true b c both.0) (ap (λ r. c ∷ r) (starts_split l s both.1))

pub starts_within : (l s : List ℕ) → starts l s ≡ true → length l ≤ length s
starts_within l s h = omega (arith, ap length (starts_split l s h), length-append l (drop (length l) s))

pub starts_short : (l s : List ℕ) → length s < length l → starts l s ≡ false
starts_short l s h = by_test (starts l s) (λ e. absurd (omega (arith, starts_within l s e))) (λ e. e)

pub literal_within : (s l : List ℕ) (p : ℕ) → p ≤ length s → literal_at s l p ≡ true → p + length l ≤ length s
literal_within s l p h e = omega (arith, h, starts_within l (drop p s) e, length-drop p s)

-- ---- where they differ
pub apart_sym : (x y : List ℕ) → apart x y ≡ true → apart y x ≡ true
unfolding apart
apart_sym [] y h = absurd (false≢true h)
apart_sym (a ∷ x) [] h = absurd (false≢true h)
apart_sym (a ∷ x) (b ∷ y) h =
    by_test (eqb a b) (λ e. rw (eq-eqb b a (sym (eqb-true a b e))) (apart_sym x y (rw e at h)))
    (λ e. rw (ne_eqb b a (λ same. eqb-false a b e (sym same))))

pub apart_append : (x y z : List ℕ) → apart x y ≡ true → apart x (y ++ z) ≡ true
unfolding apart
apart_append [] y z h = absurd (false≢true h)
apart_append (a ∷ x) [] z h = absurd (false≢true h)
apart_append (a ∷ x) (b ∷ y) z h = by_test (eqb a b) (λ e. rw e (apart_append x y z (rw e at h))) (λ e. rw e)

pub apart_starts : (x y : List ℕ) → apart x y ≡ true → starts x y ≡ false
unfolding apart starts
apart_starts [] y h = absurd (false≢true h)
apart_starts (a ∷ x) [] h = absurd (false≢true h)
apart_starts (a ∷ x) (b ∷ y) h = by_test (eqb a b) (λ e. rw e (apart_starts x y (rw e at h))) (λ e. rw e)
