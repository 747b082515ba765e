-- Questions 17 and 19 to 24, of an order as the event enters it or raises it to.
use Rattle.std.specs.Prelude.{◌*◌, ◌&&◌, ◌||◌, ◌∷◌}
use Rattle.integers.specs.Basics.{ℕ, Bool, true, false, not, List, [], ℤ, pos, negsuc, le_z, eqb}
use Rattle.ledger.specs.declared.order.Order.{Order}
use Rattle.ledger.specs.declared.order.Side.{Side}
use Rattle.ledger.specs.Roster.{Roster, group_of_instrument}
use Rattle.ledger.specs.Positions.{Way, long, short, Scope, instrument, group, same_side, way_of, way_by, potential}
use Rattle.limits.specs.Lines.{Lines, largest_order, line_in_force, figure, is_set, limit}
use Rattle.limits.specs.Questions.{Question}

-- 17: are a line in force and the group line set?
unfoldable pub limits_set : Roster → Lines → Order → Bool
limits_set r ls o =
    is_set (line_in_force r ls o.instrument) && is_set (ls.line_of_group (group_of_instrument r o.instrument))

-- 19 (side Buy: is the total at most TCI?) and 20 (side Sell: is it at most TVI?)
unfoldable pub size_fits : (Order → ℕ) → Roster → Lines → Order → Side → Bool
size_fits unit r ls o s =
    not (same_side o.side s) || le_z (pos (unit o * o.total)) (figure (largest_order s) (line_in_force r ls o.instrument))

abbrev pub same_way : Way → Way → Bool
same_way long long = true
same_way long short = false
same_way short long = false
same_way short short = true

abbrev pub is_zero : ℤ → Bool
is_zero (pos n) = eqb n 0
is_zero (negsuc n) = false

-- do the order's fills move its instrument, or its group, that way
unfoldable pub moves_instrument : Order → Way → Bool
moves_instrument o w = same_way (way_of o.side) w

unfoldable pub moves_group : Roster → Order → Way → Bool
moves_group r o w =
    not (is_zero (r.weight o.instrument)) && same_way (way_by (r.weight o.instrument) (way_of o.side)) w

-- is the potential position of a scope of the order's account, with the event applied, at most its limit on that side
unfoldable pub within : (Order → ℕ) → Roster → Lines → List Order → (ℕ → ℤ) → Order → Scope → Way → Bool
within unit r ls orders S o p w = le_z (potential unit r orders o.account S p w) (limit r ls p w)

-- 21 to 24: of the sides that the order moves, is each position within its limit? `orders` and S are with the event applied
unfoldable pub position_questions : (Order → ℕ) → Roster → Lines → List Order → (ℕ → ℤ) → Order → List Question
position_questions unit r ls orders S o =
    let i = instrument o.instrument in
    let g = group (group_of_instrument r o.instrument) in
    record { number = 21; passes = not (moves_instrument o long) || within unit r ls orders S o i long }
    ∷ record { number = 22; passes = not (moves_instrument o short) || within unit r ls orders S o i short }
    ∷ record { number = 23; passes = not (moves_group r o long) || within unit r ls orders S o g long }
    ∷ record { number = 24; passes = not (moves_group r o short) || within unit r ls orders S o g short }
    ∷ []
