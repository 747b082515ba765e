-- Fillings: each open order is filled by any whole number from 0 to its remaining, and balances move as under FILL.
use Rattle.std.specs.Prelude.{◌*◌, ◌≤◌, ◌∷◌, ◌+ℤ◌}
use Rattle.integers.specs.Basics.{ℕ, cond, List, [], ℤ, pos}
use Rattle.ledger.specs.declared.order.Order.{Order}
use Rattle.ledger.specs.Orders.{remaining}
use Rattle.ledger.specs.Positions.{toward, way_of, stands_in}

-- by how much a fill of order o by n contracts moves the balance of account a and instrument i: a buy raises it, a sell lowers it
unfoldable pub fill_moves : (Order → ℕ) → ℕ → ℕ → Order → ℕ → ℤ
fill_moves unit a i o n = cond (stands_in a i o) (toward (way_of o.side) (pos (unit o * n))) (pos 0)

-- a filling of a list of orders: a number for each, at most what remains of it
pub data Filling : List Order → Type 0 where
  none : Filling []
  fill : {o : Order} {orders : List Order} (n : ℕ) → n ≤ remaining o → Filling orders → Filling (o ∷ orders)

-- the balances of account a after a filling
unfoldable pub balance_after : (Order → ℕ) → ℕ → (ℕ → ℤ) → {orders : List Order} → Filling orders → ℕ → ℤ
balance_after unit a S none i = S i
balance_after unit a S (fill {o} n most f) i = balance_after unit a S f i +ℤ fill_moves unit a i o n
