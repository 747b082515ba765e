-- How an element goes on behind its attributes.
use Rattle.std.specs.Prelude.{◌+◌}
use Rattle.integers.specs.Basics.{ℕ, cond, List, Option, None, Some}
use Rattle.grammar.specs.Bytes.{bytes}
use Rattle.grammar.specs.Place.{place}
use Rattle.grammar.specs.Reader.{literal_at, past_blanks}
use Rattle.grammar.specs.declared.tags.Inside.{Inside}
use Rattle.grammar.specs.declared.tags.Inside.TheVariants.{Closed, Holds}

unfoldable pub inside_at : List ℕ → ℕ → Option Inside
inside_at s p =
    cond (literal_at s (bytes "/>") p) (Some (Closed (place s (p + 2))))
    (cond (literal_at s (bytes ">") p) (Some (Holds (place s (past_blanks s (p + 1))))) None)
