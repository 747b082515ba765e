-- What the questions need of the lent bytes, and which lines stand in them.
use Rattle.std.specs.Prelude.{◌≤◌, ◌≡◌}
use Rattle.integers.specs.Basics.{ℕ, Bool, List, Some, ℤ, nat_abs}
use Rattle.ledger.specs.declared.order.Order.{Order}
use Rattle.ledger.specs.Roster.{Roster, Numbered, group_of_instrument}
use Rattle.ledger.specs.Records.{roster_in}
use Rattle.positions.specs.Bounds.{WeighBounds}
use Rattle.limits.specs.Lines.{Lines, line_in_force, is_set}
use Rattle.limits.specs.InBytes.{line_at, group_line_at}

-- ---- what is there, and how large
-- for an event that adds `added` contracts to what remains of order o
pub record EventBounds (cells balances roster : List ℕ) (o : Order) (added : ℤ) : Type 0 where
  pub positions : WeighBounds cells balances roster
  pub instrument : Numbered (roster_in roster).instruments o.instrument
  pub small : nat_abs added ≤ 1000000000

-- ---- which lines
-- whether the lines that question 17 asks for are set
pub record LinesSet (r : Roster) (ls : Lines) (o : Order) (own default of_group : Bool) : Type 0 where
  pub own_set : is_set (ls.own_of o.instrument) ≡ own
  pub default_set : is_set (ls.default_of (r.contract_of o.instrument)) ≡ default
  pub group_set : is_set (ls.line_of_group (group_of_instrument r o.instrument)) ≡ of_group

-- the bytes hold the line in force for the order
abbrev pub InForce : Roster → Lines → Order → List ℕ → Type 0
InForce r ls o line = line_in_force r ls o.instrument ≡ Some (line_at line 0)

-- and the line of its group
abbrev pub OfGroup : Roster → Lines → Order → List ℕ → Type 0
OfGroup r ls o line = ls.line_of_group (group_of_instrument r o.instrument) ≡ Some (group_line_at line 0)
