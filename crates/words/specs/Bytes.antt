-- Little-endian numbers in a list of bytes, of any width.
use Rattle.std.specs.Prelude.{◌+◌, ◌*◌, ◌/◌, ◌%◌, ◌<◌}
use Rattle.integers.specs.Basics.{ℕ, zero, suc, List, get_or, set}

-- every element is a byte
abbrev pub Bytes : List ℕ → Type 0
Bytes m = (i : ℕ) → get_or m i 0 < 256

-- the number in the n bytes of m from byte a on, least significant byte first
unfoldable pub number : ℕ → List ℕ → ℕ → ℕ
number zero m a = 0
number (suc n) m a = get_or m a 0 + 256 * number n m (a + 1)

-- m with the number v in the n bytes from byte a on
unfoldable pub store : ℕ → List ℕ → ℕ → ℕ → List ℕ
store zero m a v = m
store (suc n) m a v = store n (set m a (v % 256)) (a + 1) (v / 256)
