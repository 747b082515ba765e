-- The test of a grammar that a byte or two ahead tell what comes next, so that bytes are one element at most.
use Prim.Native.String.{String}
use Rattle.std.specs.Prelude.{◌&&◌, ◌||◌, ◌∷◌}
use Rattle.integers.specs.Basics.{ℕ, Bool, true, false, not, List, [], eqb}
use Rattle.grammar.specs.Bytes.{bytes, is_blank}
use Rattle.grammar.specs.Grammar.{Attribute, number, text, together, Element, leaf, holding}
use Rattle.grammar.specs.Reader.{opened, opening}

-- they differ at a place that both have
unfoldable pub apart : List ℕ → List ℕ → Bool
apart [] y = false
apart (a ∷ x) [] = false
apart (a ∷ x) (b ∷ y) = not (eqb a b) || apart x y

-- it begins, and not with a blank
unfoldable pub begins_solid : List ℕ → Bool
begins_solid [] = false
begins_solid (b ∷ s) = not (is_blank b)

unfoldable pub names_solid : List String → Bool
names_solid [] = true
names_solid (n ∷ ns) = begins_solid (opened n) && names_solid ns

-- the first name of numbers that may be missing is not the name of what comes behind them
unfoldable pub told : List String → List Attribute → Bool
told [] l = false
told (n ∷ ns) [] = true
told (n ∷ ns) (number m ∷ l) = apart (opened n) (opened m)
told (n ∷ ns) (text m ∷ l) = apart (opened n) (opened m)
told (n ∷ ns) (together ms ∷ l) = false

unfoldable pub attributes_readable : List Attribute → Bool
attributes_readable [] = true
attributes_readable (number n ∷ l) = begins_solid (opened n) && attributes_readable l
attributes_readable (text n ∷ l) = begins_solid (opened n) && attributes_readable l
attributes_readable (together ns ∷ l) = names_solid ns && (told ns l && attributes_readable l)

abbrev pub name_of : Element → String
name_of (leaf n l) = n
name_of (holding n l c) = n

-- a child's start tag is no end tag
unfoldable pub readable : Element → Bool
readable (leaf n l) = attributes_readable l
readable (holding n l c) = attributes_readable l && (apart (opening (name_of c)) (bytes "</") && readable c)
