-- Events of a list, from numbers written out.
use Rattle.std.specs.Prelude.{◌%◌, ◌∷◌}
use Rattle.integers.specs.Basics.{ℕ, zero, suc, List, [], arith}
use Rattle.words.specs.Bytes.{Bytes}
use Rattle.book.specs.EventLists.{RawEvent}

-- each number modulo 256: bytes stay as they are
unfoldable pub as_bytes : List ℕ → List ℕ
as_bytes [] = []
as_bytes (b ∷ bs) = b % 256 ∷ as_bytes bs

pub are_bytes_lem : (l : List ℕ) → Bytes (as_bytes l)
unfolding as_bytes
are_bytes_lem [] i = omega arith
are_bytes_lem (b ∷ bs) zero = omega arith
are_bytes_lem (b ∷ bs) (suc i) = are_bytes_lem bs i

-- the event of these bytes
abbrev pub written : List ℕ → RawEvent
written l = record { bytes = as_bytes l; are = are_bytes_lem l }

abbrev pub written_all : List (List ℕ) → List RawEvent
written_all [] = []
written_all (e ∷ es) = written e ∷ written_all es
