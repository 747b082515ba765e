-- Magnitudes: `nat_abs` of sums and products, and the rules by which `omega sized` takes "z fits the width" for a bound of nat_abs z.
use Rattle.std.specs.Prelude.{◌≡◌, refl, ℕ, suc, ◌+◌, ◌*◌, ◌^◌, ◌≤◌, ◌<◌, ℤ, pos, negsuc, neg_ℤ, nat_abs, ◌+ℤ◌, ◌-ℤ◌, ◌*ℤ◌, ◌≤ℤ◌}
use Rattle.std.proofs.Common.{mul-le-mul, arith}
use Rattle.std.specs.Int.Signed.{nat_abs-le}
use Rattle.std.specs.Int.{Width}
use mir.Val.{SFits, hbits}
use Rattle.integers.specs.Parts.{signed, sum_parts, difference_parts, negation_parts, magnitude_parts}

pub fits_magnitude : (w : Width) (z : ℤ) → SFits w z → nat_abs z ≤ 2 ^ hbits w
fits_magnitude w z f = nat_abs-le z f.sfits

pub magnitude_fits : (w : Width) (z : ℤ) → nat_abs z < 2 ^ hbits w → SFits w z
magnitude_fits w (pos n) h = record { sfits = h }
magnitude_fits w (negsuc n) h = record { sfits = omega arith }

-- not to be listed beside `signed`: of two rules for `SFits` omega applies the first
pub ruleset sized = (arith, fits_magnitude, magnitude_fits)

pub magnitude_sum : (x y : ℤ) → nat_abs (x +ℤ y) ≤ nat_abs x + nat_abs y
magnitude_sum x y = omega (signed, sum_parts x y, magnitude_parts x, magnitude_parts y, magnitude_parts (x +ℤ y))

pub magnitude_difference : (x y : ℤ) → nat_abs (x -ℤ y) ≤ nat_abs x + nat_abs y
magnitude_difference x y = omega (signed, difference_parts x y, magnitude_parts x, magnitude_parts y, magnitude_parts (x -ℤ y))

pub magnitude_negation : (x : ℤ) → nat_abs (neg_ℤ x) ≡ nat_abs x
magnitude_negation x = omega (signed, negation_parts x, magnitude_parts x, magnitude_parts (neg_ℤ x))

pub magnitude_product : (x y : ℤ) → nat_abs (x *ℤ y) ≡ nat_abs x * nat_abs y
magnitude_product (pos a) (pos b) = refl
magnitude_product (pos a) (negsuc b) = magnitude_negation (pos (a * suc b))
magnitude_product (negsuc a) (pos b) = magnitude_negation (pos (suc a * b))
magnitude_product (negsuc a) (negsuc b) = refl

pub magnitude_product_≤ : (x y : ℤ) (m n : ℕ) → nat_abs x ≤ m → nat_abs y ≤ n → nat_abs (x *ℤ y) ≤ m * n
magnitude_product_≤ x y m n h k = omega (arith, magnitude_product x y, mul-le-mul h k)

-- ---- between two bounds and a magnitude
pub within_in : (z : ℤ) (m : ℕ) → neg_ℤ (pos m) ≤ℤ z → z ≤ℤ pos m → nat_abs z ≤ m
within_in z m h k = omega (signed, negation_parts (pos m), magnitude_parts z)
