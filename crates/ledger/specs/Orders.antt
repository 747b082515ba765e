-- An order: what remains of it, what a fill and a replace make of it, when it closes, and how it is found.
use Rattle.std.specs.Prelude.{◌+◌, ◌-◌, ◌∷◌}
use Rattle.integers.specs.Basics.{ℕ, Bool, cond, List, [], Option, None, Some, eqb}
use Rattle.ledger.specs.declared.order.Order.{Order}

-- what remains: total less filled
unfoldable pub remaining : Order → ℕ
remaining o = o.total - o.filled

-- the order with n more contracts filled
unfoldable pub filled_by : Order → ℕ → Order
filled_by o n =
    record { id = o.id; account = o.account; instrument = o.instrument; side = o.side; total = o.total; filled = o.filled + n }

-- the order at a new total
unfoldable pub replaced_total : Order → ℕ → Order
replaced_total o n =
    record { id = o.id; account = o.account; instrument = o.instrument; side = o.side; total = n; filled = o.filled }

-- an order closes where nothing of it remains
unfoldable pub closes : Order → Bool
closes o = eqb (remaining o) 0

-- the place of the first order with that id, in a list whose first order has place p
unfoldable pub place_from : ℕ → ℕ → List Order → Option ℕ
place_from p id [] = None
place_from p id (o ∷ os) = cond (eqb o.id id) (Some p) (place_from (p + 1) id os)
