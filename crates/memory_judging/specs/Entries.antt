-- An order as a NEW enters it, or as a REPLACE makes it of an open one.
use Rattle.std.specs.Prelude.{◌≤◌, ◌<◌, ◌≡◌}
use Rattle.integers.specs.Basics.{ℕ, true, List, Some, pos}
use Rattle.ledger.specs.declared.order.Order.{Order}
use Rattle.ledger.specs.Orders.{replaced_total}
use Rattle.book.specs.declared.OrderChange.{OrderChange}
use Rattle.book.specs.declared.OrderChange.TheVariants.{Replace}
use Rattle.book.specs.declared.Event.{Event}
use Rattle.book.specs.declared.Event.TheVariants.{New, Change}
use Rattle.book.specs.OpenOrders.{find}
use Rattle.book.specs.Table.{change_in_range}
use Rattle.memory_layout.specs.View.{open_orders}
use Rattle.memory_layout.specs.Stores.{rank}
use Rattle.memory_soundness.specs.SoundMemory.{SoundMemory}
use Rattle.memory_judging.specs.declared.entries.Entry.{Entry}
use Rattle.memory_judging.specs.declared.entries.Entry.TheVariants.{Joins, Replaces}
use Rattle.memory_judging.specs.OrderQuestions.{OnRoster}

-- the event that makes the order so
unfoldable pub entry_event : Entry → Order → Event
entry_event (Joins p) o = New o.side o.account o.instrument o.id (pos o.total)
entry_event (Replaces n) o = Change o.id (Replace (pos o.total))

-- the total that it had
abbrev pub former_total : Entry → ℕ
former_total (Joins p) = 0
former_total (Replaces n) = n

-- an order in range of which nothing is filled, which would join at place p
pub record Fresh (m : List ℕ) (o : Order) (p : ℕ) : Type 0 where
  pub on : OnRoster m o
  pub least : 1 ≤ o.total
  pub most : o.total ≤ 1000000
  pub unfilled : o.filled ≡ 0
  pub place : p ≡ rank o.id (open_orders m)

-- a change of order o, which is open at a sound desk, with its figure in range
pub record Changeable (m : List ℕ) (o : Order) (c : OrderChange) : Type 0 where
  pub held : SoundMemory m
  pub found : find o.id (open_orders m) ≡ Some o
  pub figures : change_in_range c ≡ true

-- an open order with its new total, which is above what is filled; n is the former one
pub record Replaced (m : List ℕ) (o : Order) (n : ℕ) : Type 0 where
  pub former : Order
  pub total : ℕ
  pub changes : Changeable m former (Replace (pos total))
  pub above : former.filled < total
  pub is : o ≡ replaced_total former total
  pub was : n ≡ former.total

-- what is known of either order when 13 is asked
abbrev pub Enters : List ℕ → Order → Entry → Type 0
Enters m o (Joins p) = Fresh m o p
Enters m o (Replaces n) = Replaced m o n
