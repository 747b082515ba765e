-- What an event adds to B and V: a NEW the order's quantity, a REPLACE that raises a total the rise.
use Rattle.std.specs.Prelude.{◌≡◌, ◌&&◌, ◌+ℤ◌}
use Rattle.integers.specs.Basics.{ℕ, cond, List, ℤ, pos}
use Rattle.ledger.specs.declared.order.Order.{Order}
use Rattle.ledger.specs.declared.order.Side.{Side}
use Rattle.ledger.specs.Positions.{same_side, stands_in, open_on}
use Rattle.ledger.specs.Derivatives.{one}

-- n contracts on the side, account and instrument of order o, and nothing elsewhere
unfoldable pub added_on : ℕ → Order → Side → ℕ → ℕ → ℤ
added_on n o s a i = cond (same_side o.side s && stands_in a i o) (pos n) (pos 0)

-- the open orders with the event applied, o as the event enters it or raises it to
pub record Raised (n : ℕ) (o : Order) (before after : List Order) : Type 0 where
  pub sums : (s : Side) (a i : ℕ) → open_on one after s a i ≡ open_on one before s a i +ℤ added_on n o s a i
