-- Laws of how many bytes in a row are of a class: turn by turn, for a loop; by the library's word for it; that they are of the class; and
-- how many there are where what comes behind them is not. Blanks are such a class.
use Prim.Native.Nat.{min}
use Rattle.std.specs.Prelude.{◌+◌, ◌-◌, ◌≤◌, ◌<◌, ◌≡◌, ◌∷◌, ◌++◌}
use Rattle.std.specs.List.{prefix_len}
use Rattle.integers.specs.Basics.{ℕ, zero, suc, refl, ◌∙◌, sym, ap, Bool, true, false, List, []}
use Rattle.integers.specs.Basics.{false≢true, length, get_or, take, drop, arith, not-true}
use mathlib.Core.Bool.{and-eq-true_iff}
use lib.ListN.{length-drop, drop_of_length-le}
use lib.Seq.{drop-cons}
use native.Mathlib.Numerals.{add-one}
use Rattle.grammar.specs.Bytes.{is_blank, all}
use Rattle.grammar.specs.Reader.{span, past_blanks}
use Rattle.grammar.specs.Readable.{begins_solid}
use Rattle.grammar.proofs.Tests.{by_test}
use Rattle.grammar.proofs.Places.{room}

-- there is no byte, or one that is not of the class
abbrev pub Stops : (ℕ → Bool) → List ℕ → Type 0
Stops f [] = Unit {0}
Stops f (b ∷ s) = f b ≡ false

module _ (f : ℕ → Bool) where
  pub span_stops : (n : ℕ) (s : List ℕ) → Stops f s → span f n s ≡ 0
  unfolding span
  span_stops zero s h = refl
  span_stops (suc n) [] h = refl
  span_stops (suc n) (b ∷ s) h = rw h

  -- ---- turn by turn
  pub span_end : (n p : ℕ) (s : List ℕ) → length s ≤ p → span f n (drop p s) ≡ 0
  span_end n p s h = rw drop_of_length-le (span_stops n [] tt)

  pub span_off : (n p : ℕ) (s : List ℕ) → p < length s → f (get_or s p 0) ≡ false → span f n (drop p s) ≡ 0
  span_off n p s h e = rw (drop-cons s p 0) (span_stops n (get_or s p 0 ∷ drop (suc p) s) e)

  pub span_on : (n p : ℕ) (s : List ℕ) → 1 ≤ n → p < length s → f (get_or s p 0) ≡ true
      → span f n (drop p s) ≡ 1 + span f (n - 1) (drop (p + 1) s)
  unfolding span
  span_on zero p s m h e = absurd (omega arith)
  span_on (suc n) p s m h e =
      let less : suc n - 1 ≡ n = omega arith in
      rw (drop-cons s p 0, e, less, add-one p) (omega arith)

  -- ---- by the library's word for it
  pub span_is : (n : ℕ) (s : List ℕ) → span f n s ≡ min n (prefix_len f s)
  unfolding span
  span_is zero s = omega arith
  span_is (suc n) [] = omega arith
  span_is (suc n) (b ∷ s) = by_test (f b) (λ e. rw (e, span_is n s) (omega arith)) (λ e. rw e (omega arith))

  pub prefix_len-take : (n : ℕ) (s : List ℕ) → prefix_len f (take n s) ≡ min n (prefix_len f s)
  prefix_len-take zero s = omega arith
  prefix_len-take (suc n) [] = omega arith
  prefix_len-take (suc n) (b ∷ s) = by_test (f b) (λ e. rw (e, prefix_len-take n s) (omega arith)) (λ e. rw e (omega arith))

  -- ---- what they are
  pub span_within : (n : ℕ) (s : List ℕ) → span f n s ≤ length s
  unfolding span
  span_within zero s = omega arith
  span_within (suc n) [] = omega arith
  span_within (suc n) (b ∷ s) = by_test (f b) (λ e. rw e (omega (arith, span_within n s))) (λ e. rw e (omega arith))

  pub span_all : (n : ℕ) (s : List ℕ) → all f (take (span f n s) s) ≡ true
  unfolding span all
  span_all zero s = refl
  span_all (suc n) [] = refl
  span_all (suc n) (b ∷ s) = by_test (f b) (λ e. rw e (rw e (span_all n s))) (λ e. rw e)

  -- ---- how many there are
  pub all_nil : all f [] ≡ true
  unfolding all
  all_nil = refl

  pub all_cons : (b : ℕ) (x : List ℕ) → all f (b ∷ x) ≡ true → (f b ≡ true) × (all f x ≡ true)
  unfolding all
  all_cons b x each = (and-eq-true_iff (f b) (all f x)).0 each

  pub span_append : (n : ℕ) (x y : List ℕ) → all f x ≡ true → Stops f y → length x ≤ n → span f n (x ++ y) ≡ length x
  unfolding span
  span_append n [] y each stops h = span_stops n y stops
  span_append zero (b ∷ x) y each stops h = absurd (omega arith)
  span_append (suc n) (b ∷ x) y each stops h =
      let both = all_cons b x each in
      rw both.0 (ap suc (span_append n x y both.1 stops (omega arith)))

  -- a bound that is large enough is none
  pub span_enough : (n m : ℕ) (s : List ℕ) → length s ≤ n → length s ≤ m → span f n s ≡ span f m s
  unfolding span
  span_enough n m [] h g = span_stops n [] tt ∙ sym (span_stops m [] tt)
  span_enough zero m (b ∷ s) h g = absurd (omega arith)
  span_enough (suc n) zero (b ∷ s) h g = absurd (omega arith)
  span_enough (suc n) (suc m) (b ∷ s) h g = rw (span_enough n m s (omega arith) (omega arith))

-- ---- blanks
pub solid_stops : (l y : List ℕ) → begins_solid l ≡ true → Stops is_blank (l ++ y)
unfolding begins_solid
solid_stops [] y h = absurd (false≢true h)
solid_stops (b ∷ l) y h = not-true (is_blank b) h

module _ (s : List ℕ) (p : ℕ) where
  pub past_end : length s ≤ p → past_blanks s p ≡ p
  unfolding past_blanks
  past_end h = omega (arith, span_end is_blank (length s) p s h)

  pub past_off : p < length s → is_blank (get_or s p 0) ≡ false → past_blanks s p ≡ p
  unfolding past_blanks
  past_off h e = omega (arith, span_off is_blank (length s) p s h e)

  pub past_on : p < length s → is_blank (get_or s p 0) ≡ true → past_blanks s p ≡ past_blanks s (p + 1)
  unfolding past_blanks
  past_on h e =
      let more = span_on is_blank (length s) p s (omega arith) h e in
      let long = length-drop (p + 1) s in
      let same = span_enough is_blank (length s - 1) (length s) (drop (p + 1) s) (omega arith) (omega arith) in
      omega arith

  pub past_least : p ≤ past_blanks s p
  unfolding past_blanks
  past_least = omega arith

  pub past_within : p ≤ length s → past_blanks s p ≤ length s
  unfolding past_blanks
  past_within h = omega (arith, span_within is_blank (length s) (drop p s), length-drop p s)

  -- they are passed alone
  pub past_append : (x y : List ℕ) → drop p s ≡ x ++ y → all is_blank x ≡ true → Stops is_blank y → past_blanks s p ≡ p + length x
  unfolding past_blanks
  past_append x y e each stops =
      ap (λ l. p + span is_blank (length s) l) e
      ∙ ap (λ k. p + k) (span_append is_blank (length s) x y each stops (omega (arith, room s p x y e)))

pub ruleset blanks_passed = (past_end, past_off, past_on, past_within)
