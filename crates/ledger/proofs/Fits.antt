-- What the machine does with signed numbers of bounded magnitude: a negation fits and is read back as itself, and so is a product.
use Rattle.std.specs.Prelude.{◌≤◌, ◌≡◌, ◌-ℤ◌, ◌*ℤ◌}
use Rattle.integers.specs.Basics.{ℤ, pos, neg_ℤ, nat_abs, +ℤ_idl, w64, SFits, to_z, of_z, to_z-of_z}
use Rattle.integers.specs.Magnitude.{sized, magnitude_negation, magnitude_product_≤}

-- the bits of a signed number, read again
abbrev pub again : ℤ → ℤ
again z = to_z w64 (of_z w64 z)

pub small_again : (z : ℤ) → nat_abs z ≤ 9000000000000000000 → again z ≡ z
small_again z h = to_z-of_z w64 z (omega sized)

module _ (x : ℤ) (h : nat_abs x ≤ 9000000000000000000) where
  pub negation_fits : SFits w64 (pos 0 -ℤ again x)
  negation_fits = simp (to_z-of_z w64 x (omega sized), +ℤ_idl) (omega (sized, magnitude_negation x))

  pub negation_again : again (pos 0 -ℤ again x) ≡ neg_ℤ x
  negation_again =
      simp (to_z-of_z w64 x (omega sized), +ℤ_idl, to_z-of_z w64 (neg_ℤ x) (omega (sized, magnitude_negation x)))

module _ (k x : ℤ) (h : nat_abs x ≤ 200000000000) (l : nat_abs k ≤ 1000000) where
  pub product_again : again (again k *ℤ again x) ≡ k *ℤ x
  product_again =
      simp (
        to_z-of_z w64 x (omega sized),
        to_z-of_z w64 k (omega sized),
        to_z-of_z w64 (k *ℤ x) (omega (sized, magnitude_product_≤ k x 1000000 200000000000 l h)),
      )
