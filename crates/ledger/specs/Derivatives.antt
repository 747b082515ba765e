-- A derivatives desk: one contract of an order counts for 1.
use Rattle.std.specs.Prelude.{◌&&◌}
use Rattle.integers.specs.Basics.{ℕ, cond}
use Rattle.ledger.specs.declared.order.Order.{Order}
use Rattle.ledger.specs.declared.order.Side.{Side}
use Rattle.ledger.specs.Orders.{remaining}
use Rattle.ledger.specs.Positions.{same_side, stands_in}

unfoldable pub one : Order → ℕ
one o = 1

-- what order o counts for in B (side Buy) or V (side Sell) of account a and instrument i
unfoldable pub counted : Order → Side → ℕ → ℕ → ℕ
counted o s a i = cond (same_side o.side s && stands_in a i o) (remaining o) 0
