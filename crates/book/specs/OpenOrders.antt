-- The open orders of the plain book: a list ascending by id.
use Rattle.std.specs.Prelude.{◌∷◌, ◌++◌}
use Rattle.integers.specs.Basics.{ℕ, cond, List, [], Option, None, Some, ltb, eqb}
use Rattle.ledger.specs.declared.order.Order.{Order}
use Rattle.ledger.specs.Orders.{closes}

-- the order with that id, the search ending at the first match
unfoldable pub find : ℕ → List Order → Option Order
find id [] = None
find id (o ∷ os) = cond (eqb o.id id) (Some o) (find id os)

-- the order joins, before the first larger id
unfoldable pub insert : Order → List Order → List Order
insert o [] = o ∷ []
insert o (x ∷ os) = cond (ltb o.id x.id) (o ∷ x ∷ os) (x ∷ insert o os)

-- the order with that id becomes what f makes of it: one order, or none where it leaves
unfoldable pub change : ℕ → (Order → List Order) → List Order → List Order
change id f [] = []
change id f (o ∷ os) = cond (eqb o.id id) (f o ++ os) (o ∷ change id f os)

-- an order that closes leaves
unfoldable pub kept : Order → List Order
kept o = cond (closes o) [] (o ∷ [])
