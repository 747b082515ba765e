-- Fields at any byte of a list of bytes: little-endian, unsigned or in two's complement.
use Rattle.integers.specs.Basics.{ℕ, List, ℤ}
use Rattle.integers.specs.TwosComplement.{signed_of}
use Rattle.words.specs.Bytes.{number}

-- the unsigned fields of 8, 16, 32 and 64 bits at byte a of s
unfoldable pub u8_at : List ℕ → ℕ → ℕ
u8_at s a = number 1 s a

unfoldable pub u16_at : List ℕ → ℕ → ℕ
u16_at s a = number 2 s a

unfoldable pub u32_at : List ℕ → ℕ → ℕ
u32_at s a = number 4 s a

unfoldable pub u64_at : List ℕ → ℕ → ℕ
u64_at s a = number 8 s a

-- the signed fields of 32 and 64 bits
unfoldable pub i32_at : List ℕ → ℕ → ℤ
i32_at s a = signed_of 32 (number 4 s a)

unfoldable pub i64_at : List ℕ → ℕ → ℤ
i64_at s a = signed_of 64 (number 8 s a)
