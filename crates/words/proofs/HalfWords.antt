-- The halves of a word, as fields of 32 bits and as they were joined.
use Rattle.std.specs.Prelude.{◌+◌, ◌*◌, ◌^◌, ◌<◌, ◌≡◌}
use Rattle.integers.specs.Basics.{ℕ, List, arith}
use native.Mathlib.Nat.{add_assoc}
use Rattle.words.specs.Bytes.{Bytes, number}
use Rattle.words.specs.Fields.{u32_at}
use Rattle.words.specs.Words.{word_at, lower, upper, halves}
use Rattle.words.proofs.Numbers.{number_below}

-- a number of eight bytes is made of two of four
number_halves : (m : List ℕ) (a : ℕ) → number 8 m a ≡ number 4 m a + 2 ^ 32 * number 4 m (a + 4)
unfolding number
number_halves m a = simp add_assoc (omega arith)

module _ (m : List ℕ) (k : ℕ) (bytes : Bytes m) where
  pub lower_field : u32_at m (k * 8) ≡ lower (word_at m k)
  unfolding u32_at word_at
  lower_field = omega (arith, number_halves m (k * 8), number_below 4 m (k * 8) bytes)

  pub upper_field : u32_at m (k * 8 + 4) ≡ upper (word_at m k)
  unfolding u32_at word_at
  upper_field = omega (arith, number_halves m (k * 8), number_below 4 m (k * 8) bytes)

-- two numbers of 32 bits make a word, of which they are the halves
module _ (x y : ℕ) (small : x < 2 ^ 32) where
  pub lower_halves : lower (halves x y) ≡ x
  lower_halves = omega arith

  pub upper_halves : upper (halves x y) ≡ y
  upper_halves = omega arith

  pub halves_below : y < 2 ^ 32 → halves x y < 2 ^ 64
  halves_below h = omega arith
