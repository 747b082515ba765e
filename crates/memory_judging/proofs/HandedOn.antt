-- Figures handed on: what a test said of one or of two, and that a quantity fits.
use Rattle.std.specs.Prelude.{◌≡◌}
use Rattle.integers.specs.Basics.{◌∙◌, ap, Bool, true, ℤ, pos, nat_abs, non_neg, T, w64, Fits, SFits, to_z, of_z, to_z-of_z, signed}
use Rattle.integers.specs.Basics.{magnitude_parts}
use Rattle.book.specs.Table.{is_quantity}
use Rattle.book.proofs.Tables.{between_ℤ_both}

pub test_handed_on : (test : ℤ → Bool) {t : Bool} {z : ℤ} → SFits w64 z → t ≡ test (to_z w64 (of_z w64 z)) → t ≡ test z
test_handed_on test {z = z} f e = e ∙ ap test (to_z-of_z w64 z f)

pub tests_handed_on : (test : ℤ → ℤ → Bool) {t : Bool} (x y : ℤ) → SFits w64 x → SFits w64 y
    → t ≡ test (to_z w64 (of_z w64 x)) (to_z w64 (of_z w64 y)) → t ≡ test x y
tests_handed_on test x y f g e = test_handed_on (λ z. test z y) f (test_handed_on (test (to_z w64 (of_z w64 x))) g e)

-- a quantity is a whole number that fits
pub quantity_cast : (n : ℤ) → SFits w64 n → is_quantity n ≡ true
    → T (non_neg (to_z w64 (of_z w64 n))) × Fits w64 (nat_abs (to_z w64 (of_z w64 n)))
quantity_cast n f e =
    let h = between_ℤ_both (pos 1) (pos 1000000) n e in
    rw (to_z-of_z w64 n f) (omega signed, omega (signed, magnitude_parts n))
