-- A number that has the bits of two is at least each of them.
use Rattle.std.specs.Prelude.{◌≤◌}
use Rattle.integers.specs.Basics.{ℕ, arith}
use lib.Bits.{bit_or, or_add_and, and_le_l, and_le_r}

pub or_left : (a b : ℕ) → a ≤ bit_or a b
or_left a b = omega (arith, or_add_and a b, and_le_r a b)

pub or_right : (a b : ℕ) → b ≤ bit_or a b
or_right a b = omega (arith, or_add_and a b, and_le_l a b)
