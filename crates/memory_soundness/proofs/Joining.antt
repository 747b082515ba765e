-- A number that has the bits of others is at least each of them.
use Rattle.std.specs.Prelude.{◌*◌, ◌^◌, ◌≤◌, ◌<◌, ◌≡◌, ◌-ℤ◌, ◌∷◌}
use Rattle.integers.specs.Basics.{ℕ, zero, suc, List, [], length, get_or, by_cases, pos, nat_abs, arith, signed, magnitude_parts}
use Rattle.integers.specs.Basics.{difference_parts}
use native.Mathlib.Decide.{dec_le}
use lib.Bits.{bit_or}
use Rattle.std.specs.List.{fold}
use Rattle.integers.specs.TwosComplement.{signed_of, signed_small, signed_large}
use Rattle.words.proofs.Bits.{or_left, or_right}
use Rattle.ledger.specs.Roster.{Numbered}
use Rattle.memory_soundness.specs.Cells.{offset_word}

-- the bits of f of each element, begun with a
abbrev pub joined : {A : Type 0} → (A → ℕ) → ℕ → List A → ℕ
joined f = fold (λ all x. bit_or all (f x))

module _ {A : Type 0} (f : A → ℕ) where
  joined_more : (a : ℕ) (xs : List A) → a ≤ joined f a xs
  joined_more a [] = omega arith
  joined_more a (x ∷ xs) = omega (arith, joined_more (bit_or a (f x)) xs, or_left a (f x))

  pub joined_each : (a r : ℕ) (xs : List A) (d : A) → r ≡ joined f a xs → (p : ℕ) → p < length xs → f (get_or xs p d) ≤ r
  joined_each a r [] d e p h = absurd (omega arith)
  joined_each a r (x ∷ xs) d e zero h = omega (arith, e, joined_more (bit_or a (f x)) xs, or_right a (f x))
  joined_each a r (x ∷ xs) d e (suc p) h = joined_each (bit_or a (f x)) r xs d e p (omega arith)

-- ---- a signed number of 64 bits that is small with the offset added
pub offset_small : (half n : ℕ) → half ≤ 1000000000 → n < 2 ^ 64 → offset_word half n < half * 2 → nat_abs (signed_of 64 n) ≤ half
offset_small half n few word h =
    by_cases (dec_le 9223372036854775808 n)
    (λ large. let z = pos n -ℤ pos 18446744073709551616 in
    rw (signed_large 64 n large) (omega (signed, difference_parts (pos n) (pos 18446744073709551616), magnitude_parts z)))
    (λ small. let low : n < 9223372036854775808 = omega (arith, small) in rw (signed_small 64 n low) (omega arith))

-- ---- a word that is small with 1 taken off
pub numbered_less : (n r most : ℕ) → n < 2 ^ 64 → most < 2 ^ 64 → offset_word 18446744073709551615 n ≤ r → r < most → Numbered most n
numbered_less n r most word size h l = (omega arith, omega arith)
