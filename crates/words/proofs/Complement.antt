-- Two's complement as std casts between bits and numbers.
use Rattle.std.specs.Prelude.{◌^◌, ◌<◌, ◌≡◌}
use Rattle.integers.specs.Basics.{ℕ, sym, ℤ, w32, w64, of_z, to_z}
use Rattle.integers.specs.TwosComplement.{signed_of, bits_of, bits_of_z, signed_to_z}

pub cast32 : (n : ℕ) → n < 2 ^ 32 → to_z w32 n ≡ signed_of 32 n
cast32 n small = sym (signed_to_z w32 n small)

pub cast64 : (n : ℕ) → n < 2 ^ 64 → to_z w64 n ≡ signed_of 64 n
cast64 n small = sym (signed_to_z w64 n small)

pub bits64 : (z : ℤ) → of_z w64 z ≡ bits_of 64 z
bits64 z = sym (bits_of_z w64 z)
