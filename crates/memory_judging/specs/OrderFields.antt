-- An order as it is asked about at a sound desk, with its instrument's contract and group, and the cells of its account.
use Rattle.std.specs.Prelude.{◌*◌, ◌≡◌}
use Rattle.integers.specs.Basics.{ℕ, List, take, drop}
use Rattle.ledger.specs.declared.order.Order.{Order}
use Rattle.ledger.specs.Roster.{Numbered, group_of_instrument}
use Rattle.memory_layout.specs.View.{roster_of}
use Rattle.memory_judging.specs.OrderQuestions.{OnRoster}

-- order o is of the roster, and c and g are its instrument's contract and group, which are on it too
pub record AskedAt (m : List ℕ) (o : Order) (c g : ℕ) : Type 0 where
  pub on : OnRoster m o
  pub contract : c ≡ (roster_of m).contract_of o.instrument
  pub group : g ≡ group_of_instrument (roster_of m) o.instrument
  pub on_contract : Numbered (roster_of m).contracts c
  pub on_group : Numbered (roster_of m).groups g

-- B and V of account a, of those of all accounts
unfoldable pub cells_of : List ℕ → ℕ → List ℕ
cells_of cells a = take 65 (drop (a * 64) cells)
