-- A sum or a difference of two integers, read and proved by `omega linear` with no fact for it: rules before those of `signed`.
use Rattle.std.specs.Prelude.{◌+◌, ◌≤◌, ◌≡◌, ◌+ℤ◌, ◌-ℤ◌, ◌≤ℤ◌}
use Rattle.integers.specs.Basics.{ℤ, signed, sum_parts, difference_parts}
use Rattle.integers.specs.Parts.{up, down}

-- of two sums
module _ (x a y b : ℤ) where
  pub ≡_sums : x +ℤ a ≡ y +ℤ b → up x + up a + (down y + down b) ≡ up y + up b + (down x + down a)
  ≡_sums e = omega (signed, sum_parts x a, sum_parts y b)

  pub sums_≡ : up x + up a + (down y + down b) ≡ up y + up b + (down x + down a) → x +ℤ a ≡ y +ℤ b
  sums_≡ e = omega (signed, sum_parts x a, sum_parts y b)

  pub sums_≤ : up x + up a + (down y + down b) ≤ up y + up b + (down x + down a) → (x +ℤ a) ≤ℤ (y +ℤ b)
  sums_≤ e = omega (signed, sum_parts x a, sum_parts y b)

-- of a difference or a sum, and another integer
module _ (x y b : ℤ) where
  pub ≡_difference : x ≡ y -ℤ b → up x + (down y + up b) ≡ up y + down b + down x
  ≡_difference e = omega (signed, difference_parts y b)

  pub difference_≡ : up x + (down y + up b) ≡ up y + down b + down x → x ≡ y -ℤ b
  difference_≡ e = omega (signed, difference_parts y b)

  pub ≡_sum : x ≡ y +ℤ b → up x + (down y + down b) ≡ up y + up b + down x
  ≡_sum e = omega (signed, sum_parts y b)

  pub sum_≡ : up x + (down y + down b) ≡ up y + up b + down x → x ≡ y +ℤ b
  sum_≡ e = omega (signed, sum_parts y b)

  pub first_sum_≡ : y +ℤ b ≡ x → up y + up b + down x ≡ up x + (down y + down b)
  first_sum_≡ e = omega (signed, sum_parts y b)

  pub ≡_first_sum : up y + up b + down x ≡ up x + (down y + down b) → y +ℤ b ≡ x
  ≡_first_sum e = omega (signed, sum_parts y b)

  pub ≤_sum : x ≤ℤ (y +ℤ b) → up x + (down y + down b) ≤ up y + up b + down x
  ≤_sum e = omega (signed, sum_parts y b)

  pub sum_≤ : up x + (down y + down b) ≤ up y + up b + down x → x ≤ℤ (y +ℤ b)
  sum_≤ e = omega (signed, sum_parts y b)

  pub first_sum_≤ : up y + up b + down x ≤ up x + (down y + down b) → (y +ℤ b) ≤ℤ x
  first_sum_≤ e = omega (signed, sum_parts y b)

pub ruleset linear = (
  ≡_sums,
  sums_≡,
  sums_≤,
  ≡_difference,
  difference_≡,
  ≡_sum,
  sum_≡,
  first_sum_≡,
  ≡_first_sum,
  ≤_sum,
  sum_≤,
  first_sum_≤,
  signed,
)
