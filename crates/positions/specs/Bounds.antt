-- What the positions of an account need: that the lent bytes are there, and that no number is too large.
use Rattle.std.specs.Prelude.{◌+◌, ◌*◌, ◌≤◌, ◌≡◌}
use Rattle.integers.specs.Basics.{ℕ, List, nat_abs, length, get_or}
use Rattle.ledger.specs.declared.order.Order.{Order}
use Rattle.ledger.specs.declared.order.Side.{Side}
use Rattle.ledger.specs.Roster.{Roster, Numbered}
use Rattle.ledger.specs.Positions.{open_on}
use Rattle.ledger.specs.Records.{balances_in, roster_in}
use Rattle.ledger.specs.Derivatives.{one}
use Rattle.positions.specs.Gathered.{cell}

-- for PCI and PVI of account a and instrument i
pub record InstrumentBounds (orders : List Order) (balances : List ℕ) (a i : ℕ) : Type 0 where
  pub balances_long : i * 8 + 8 ≤ length balances
  pub small : (s : Side) → nat_abs (balances_in balances i) + nat_abs (open_on one orders s a i) ≤ 9000000000000000000

-- for the cells of account a
pub record GatherBounds (orders : List Order) (a : ℕ) : Type 0 where
  pub account : Numbered 16 a
  pub unfilled : (s : Side) (i : ℕ) → nat_abs (open_on one orders s a i) ≤ 100000000000

-- for PCI and PVI of instrument i by the cells
pub record CellBounds (cells balances : List ℕ) (i : ℕ) : Type 0 where
  pub size : length cells ≡ 65
  pub long : 264 ≤ length balances
  pub instrument : Numbered 32 i
  pub balance : nat_abs (balances_in balances i) ≤ 100000000000
  pub unfilled : (s : Side) → get_or cells (cell s i) 0 ≤ 100000000000

-- of balances: word i is the balance of instrument i
pub record BalanceBounds (balances : List ℕ) (instruments : ℕ) : Type 0 where
  pub long : 264 ≤ length balances
  pub balance : (i : ℕ) → Numbered instruments i → nat_abs (balances_in balances i) ≤ 100000000000

-- of a roster
pub record RosterBounds (m : List ℕ) (r : Roster) : Type 0 where
  pub long : 608 ≤ length m
  pub instruments : r.instruments ≤ 32
  pub contract : (i : ℕ) → Numbered r.instruments i → Numbered 8 (r.contract_of i)
  pub weight : (i : ℕ) → Numbered r.instruments i → nat_abs (r.weight i) ≤ 1000000

-- for PCC and PVC by the cells
pub record WeighBounds (cells balances roster : List ℕ) : Type 0 where
  pub size : length cells ≡ 65
  pub unfilled : (s : Side) (i : ℕ) → Numbered 32 i → get_or cells (cell s i) 0 ≤ 100000000000
  pub balances_small : BalanceBounds balances (roster_in roster).instruments
  pub roster_small : RosterBounds roster (roster_in roster)

-- for PCC and PVC of account a
pub record GroupBounds (orders : List Order) (balances roster : List ℕ) (a : ℕ) : Type 0 where
  pub orders_small : GatherBounds orders a
  pub balances_small : BalanceBounds balances (roster_in roster).instruments
  pub roster_small : RosterBounds roster (roster_in roster)
