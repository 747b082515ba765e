-- The order under a product: what a factor of known sign does to ≤ and <.
use Rattle.std.specs.Prelude.{ℕ, ℤ, pos, negsuc, neg_ℤ, ◌*ℤ◌, ◌≤ℤ◌, ◌<ℤ◌}
use Rattle.std.proofs.Common.{mul-le-mul_left}
use Rattle.integers.specs.Parts.{signed, ≤_parts, <_parts, negation_parts, scaled_parts}
use Rattle.integers.specs.Ring.{neg_ℤ_*ℤ}

pub times_≤ : (n : ℕ) (x y : ℤ) → x ≤ℤ y → (pos n *ℤ x) ≤ℤ (pos n *ℤ y)
times_≤ n x y h = omega (signed, scaled_parts n x, scaled_parts n y, mul-le-mul_left n (≤_parts x y h))

pub product_≤ : (k x y : ℤ) → pos 0 ≤ℤ k → x ≤ℤ y → (k *ℤ x) ≤ℤ (k *ℤ y)
product_≤ (pos n) x y s h = times_≤ n x y h
product_≤ (negsuc n) x y s h = absurd (omega signed)

pub product_< : (k x y : ℤ) → pos 0 <ℤ k → x <ℤ y → (k *ℤ x) <ℤ (k *ℤ y)
product_< (pos n) x y s h = omega (signed, scaled_parts n x, scaled_parts n y, mul-le-mul_left n (<_parts x y h))
product_< (negsuc n) x y s h = absurd (omega signed)

-- a factor below 0 turns the order round
pub flipped_≤ : (k x y : ℤ) → k ≤ℤ pos 0 → x ≤ℤ y → (k *ℤ y) ≤ℤ (k *ℤ x)
flipped_≤ k x y s h =
    omega (
      signed,
      neg_ℤ_*ℤ k x,
      neg_ℤ_*ℤ k y,
      negation_parts (k *ℤ x),
      negation_parts (k *ℤ y),
      product_≤ (neg_ℤ k) x y (omega (signed, negation_parts k)) h,
    )
