-- The bytes of a file: how a text stands in them, the classes that a layout speaks of, and pieces one after the other.
use Prim.Native.Char.{code}
use Prim.Native.String.{String, [] as empty, ◌∷◌ as ◌before◌}
use Rattle.std.specs.Prelude.{◌+◌, ◌*◌, ◌-◌, ◌≡◌, ◌&&◌, ◌||◌, ◌∷◌, ◌++◌}
use Rattle.integers.specs.Basics.{ℕ, Bool, true, not, List, [], leb, eqb}

-- a text in ASCII
abbrev pub bytes : String → List ℕ
bytes empty = []
bytes (c before s) = code c ∷ bytes s

-- W1, "Spaces, tabs and line ends": a line ends with a carriage return, a line feed or both
unfoldable pub is_blank : ℕ → Bool
is_blank b = eqb b 32 || (eqb b 9 || (eqb b 13 || eqb b 10))

unfoldable pub is_digit : ℕ → Bool
is_digit b = leb 48 b && leb b 57

-- W1, "without quote, ampersand or angle bracket"
unfoldable pub is_plain : ℕ → Bool
is_plain b = not (eqb b 34 || (eqb b 38 || (eqb b 60 || eqb b 62)))

unfoldable pub all : {A : Type 0} → (A → Bool) → List A → Bool
all f [] = true
all f (b ∷ s) = f b && all f s

-- the number that digits say, behind a number n that was said before them
unfoldable pub value_from : ℕ → List ℕ → ℕ
value_from n [] = n
value_from n (b ∷ s) = value_from (n * 10 + (b - 48)) s

abbrev pub value_of : List ℕ → ℕ
value_of s = value_from 0 s

-- a piece and then another
abbrev pub Then : (List ℕ → Type 0) → (List ℕ → Type 0) → List ℕ → Type 0
Then P Q s = (x y : List ℕ) × (s ≡ x ++ y) × P x × Q y

-- just these bytes
abbrev pub Literal : String → List ℕ → Type 0
Literal t s = s ≡ bytes t

-- bytes of one class alone, any number of them
abbrev pub Each : (ℕ → Bool) → List ℕ → Type 0
Each f s = all f s ≡ true
