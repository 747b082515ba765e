-- Which side of which position an order's fills move.
use Rattle.std.specs.Prelude.{◌≡◌, ◌≢◌}
use Rattle.integers.specs.Basics.{pos}
use Rattle.ledger.specs.declared.order.Order.{Order}
use Rattle.ledger.specs.Roster.{Roster, group_of_instrument}
use Rattle.ledger.specs.Positions.{Way, Scope, instrument, group, way_of, way_by}

-- a buy moves its instrument long and, by the sign of K, its group long or short; a sell does the opposite; K = 0 moves no group
abbrev pub Moves : Roster → Order → Scope → Way → Type 0
Moves r o (instrument i) w = (o.instrument ≡ i) × (way_of o.side ≡ w)
Moves r o (group g) w =
    (group_of_instrument r o.instrument ≡ g)
    × (r.weight o.instrument ≢ pos 0)
    × (way_by (r.weight o.instrument) (way_of o.side) ≡ w)
