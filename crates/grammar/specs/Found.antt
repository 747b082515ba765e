-- Readings of bytes s as code hands them on, as an option: what is read, and the place behind it in the same bytes.
use Rattle.std.specs.Prelude.{◌+◌}
use Rattle.integers.specs.Basics.{ℕ, cond, List, Option, None, Some, length}
use Rattle.grammar.specs.Place.{Place, place}
use Rattle.grammar.specs.Reader.{Reading, nothing, up_to, literal_at}

abbrev pub place_of : {A : Type 0} → List ℕ → Reading A → Option Place
place_of s nothing = None
place_of s (up_to v n) = Some (place s n)

abbrev pub found : {A : Type 0} → List ℕ → Reading A → Option (A × Place)
found s nothing = None
found s (up_to v n) = Some (v, place s n)

-- what may be missing at place p
abbrev pub found_or_none : {A : Type 0} → Place → Option (A × Place) → Option A × Place
found_or_none p None = (None, p)
found_or_none p (Some (v, n)) = (Some v, n)

-- the place behind a literal
abbrev pub past_literal : List ℕ → List ℕ → ℕ → Option Place
past_literal s l p = cond (literal_at s l p) (Some (place s (p + length l))) None
