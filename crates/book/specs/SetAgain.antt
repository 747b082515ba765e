-- "A limit that applies is set again by an accepted LIMIT, −1 included, on the group's line or on a line in force before or
-- after it": lines are known by name, not by figures.
use Rattle.std.specs.Prelude.{◌≡◌, ◌⊎◌}
use Rattle.integers.specs.Basics.{ℕ, cond, Option, None, Some}
use Rattle.ledger.specs.Roster.{Roster}
use Rattle.ledger.specs.Positions.{Scope, instrument, group}
use Rattle.limits.specs.Lines.{is_set}
use Rattle.book.specs.declared.LimitLine.{LimitLine}
use Rattle.book.specs.declared.LimitLine.TheVariants.{Own, Default, OfGroup}
use Rattle.book.specs.declared.Setting.{Setting}
use Rattle.book.specs.declared.Event.{Event}
use Rattle.book.specs.declared.Event.TheVariants.{Set, New, Change, Junk}
use Rattle.book.specs.Settings.{IsLimit, as_limit}
use Rattle.book.specs.Books.{Book}
use Rattle.book.specs.States.{State, work}

-- a line by name, of an account
pub data LineName : Type 0 where
  own_line : ℕ → ℕ → LineName
  default_line : ℕ → ℕ → LineName
  group_line : ℕ → ℕ → LineName

abbrev pub name_of : ℕ → LimitLine → LineName
name_of a (Own i f) = own_line a i
name_of a (Default c f) = default_line a c
name_of a (OfGroup g x y) = group_line a g

-- the line that an event sets: the one that a LIMIT names
abbrev pub line_named : {x : Setting} → Option (IsLimit x) → Option LineName
line_named None = None
line_named (Some s) = Some (name_of s.account s.line)

unfoldable pub line_set : Event → Option LineName
line_set (Set x) = line_named (as_limit x)
line_set (New s a i id n) = None
line_set (Change id c) = None
line_set Junk = None

-- the line that a position of account a is under: the group's line, or the line in force
unfoldable pub line_over : Roster → Book → ℕ → Scope → LineName
line_over r b a (instrument i) =
    cond (is_set ((b.lines_of a).own_of i)) (own_line a i) (default_line a (r.contract_of i))
line_over r b a (group g) = group_line a g

-- an accepted event sets the limit of account a's position again
abbrev pub SetsAgain : State → Event → ℕ → Scope → Type 0
SetsAgain k e a p =
    (line_set e ≡ Some (line_over k.roster k.book a p)) ⊎ (line_set e ≡ Some (line_over k.roster (work k e).book a p))
