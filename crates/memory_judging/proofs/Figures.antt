-- A quantity is a whole number; and tests of a signed figure by its size.
use Rattle.std.specs.Prelude.{◌≡◌, ◌&&◌, ◌-ℤ◌}
use Rattle.integers.specs.Basics.{ℕ, refl, ◌∙◌, ap, Bool, true, false, ℤ, pos, negsuc, neg_ℤ, nat_abs, le_z, lt_z, mag}
use Rattle.integers.specs.Basics.{leb, ltb, le-leb, lt-leb, lt-ltb, le-ltb, signed, magnitude_parts, negation_parts, difference_parts}
use Rattle.book.specs.Table.{between_ℤ, is_limit, is_quantity}
use Rattle.book.proofs.Tables.{between_ℤ_both}
use Rattle.memory_soundness.proofs.Asked.{same_test}

pub whole_quantity : (n : ℤ) → is_quantity n ≡ true → n ≡ pos (nat_abs n)
whole_quantity n e =
    let h = between_ℤ_both (pos 1) (pos 1000000) n e in
    omega (signed, magnitude_parts n)

-- ---- by its size
and_yes : (t : Bool) → t && true ≡ t
and_yes true = refl
and_yes false = refl

module _ (largest : ℕ) (z : ℤ) where
  pub negative_no_limit : lt_z z (pos 0) ≡ true → is_limit largest z ≡ false
  negative_no_limit e = let below : le_z (pos 0) z ≡ false = omega signed in rw below

  module _ (e : lt_z z (pos 0) ≡ false) where
    by_size : le_z z (pos largest) ≡ leb (nat_abs z) largest
    by_size =
        same_test (le_z z (pos largest)) (leb (nat_abs z) largest) (λ f. le-leb (nat_abs z) largest (omega (signed, magnitude_parts z)))
        (λ f. lt-leb (nat_abs z) largest (omega (signed, magnitude_parts z)))

    pub limit_by_size : is_limit largest z ≡ leb (nat_abs z) largest
    limit_by_size = let above : le_z (pos 0) z ≡ true = omega signed in rw above by_size

    pub balance_by_size : between_ℤ (neg_ℤ (pos largest)) (pos largest) z ≡ leb (nat_abs z) largest
    balance_by_size =
        let above : le_z (neg_ℤ (pos largest)) z ≡ true = omega (signed, negation_parts (pos largest)) in
        rw above by_size

-- of a negative number, what −1 less it is
pub one_less : (z : ℤ) → lt_z z (pos 0) ≡ true → negsuc 0 -ℤ z ≡ pos (mag z)
one_less (pos n) e = absurd (omega signed)
one_less (negsuc n) e = omega (signed, difference_parts (negsuc 0) (negsuc n))

pub balance_below : (largest : ℕ) (z : ℤ) → lt_z z (pos 0) ≡ true
    → between_ℤ (neg_ℤ (pos largest)) (pos largest) z ≡ ltb (nat_abs (pos (mag z))) largest
balance_below largest z e =
    let less = negsuc 0 -ℤ z in
    let below : le_z z (pos largest) ≡ true = omega signed in
    let size = ap nat_abs (one_less z e) in
    let parts = difference_parts (negsuc 0) z in
    let lowest = negation_parts (pos largest) in
    rw below (and_yes (le_z (neg_ℤ (pos largest)) z))
    ∙ same_test (le_z (neg_ℤ (pos largest)) z) (ltb (nat_abs (pos (mag z))) largest)
    (λ f. lt-ltb (nat_abs (pos (mag z))) largest (omega (signed, lowest, parts, magnitude_parts less, size)))
    (λ f. le-ltb (nat_abs (pos (mag z))) largest (omega (signed, lowest, parts, magnitude_parts less, size)))
