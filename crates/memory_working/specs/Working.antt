-- The memory after an accepted event, by an equation for each kind.
use Rattle.std.specs.Prelude.{◌≤◌, ◌≡◌, ◌∷◌, ◌+ℤ◌}
use Rattle.integers.specs.Basics.{ℕ, Bool, true, not, cond, List, [], Option, None, Some, ℤ, pos, set}
use Rattle.ledger.specs.declared.order.Order.{Order}
use Rattle.ledger.specs.Orders.{closes, place_from}
use Rattle.ledger.specs.Records.{order_of}
use Rattle.ledger.specs.Fillings.{fill_moves}
use Rattle.limits.specs.Asked.{is_zero}
use Rattle.book.specs.declared.Figures.{Figures}
use Rattle.book.specs.declared.LimitLine.{LimitLine}
use Rattle.book.specs.declared.LimitLine.TheVariants.{Own, Default, OfGroup}
use Rattle.book.specs.declared.Blocked.{Blocked}
use Rattle.book.specs.declared.Blocked.TheVariants.{Account, Instrument, GroupFor}
use Rattle.book.specs.declared.Setting.{Setting}
use Rattle.book.specs.declared.Setting.TheVariants.{Limit, Balance, Block}
use Rattle.book.specs.declared.Event.{Event}
use Rattle.book.specs.declared.OrderChange.{OrderChange}
use Rattle.book.specs.declared.Event.TheVariants.{Set, New, Change, Junk}
use Rattle.book.specs.OpenOrders.{find, insert, change}
use Rattle.book.specs.Books.{line_of, group_line_of, new_order, changed, filled_in}
use Rattle.book.specs.Table.{line_fits, figures_of_line_fit, change_in_range, fits_order}
use Rattle.memory_layout.specs.declared.orders.Named.{Named}
use Rattle.memory_layout.specs.View.{market_of, balances_of, first_of, open_orders}
use Rattle.memory_layout.specs.Judged.{judged, NamedAt}
use Rattle.memory_layout.specs.Stores.{store_from, joined_first, left_first, rank, without}
use Rattle.memory_layout.specs.FieldStores.{store_balance, store_mark, block_account, block_instrument, block_group, store_own, store_default}
use Rattle.memory_layout.specs.FieldStores.{store_of_group}
use Rattle.memory_soundness.specs.Cells.{Sums}
use Rattle.memory_soundness.specs.SoundMemory.{SoundMemory}

-- an accepted event at a sound desk
pub record AcceptedEvent (m : List ℕ) (e : Event) : Type 0 where
  pub held : SoundMemory m
  pub accepted : judged m e ≡ 0

-- and w is the detail of the order that it names, which stands, or joins, at place p
pub record Ready (m : List ℕ) (e : Event) (p w : ℕ) : Type 0 where
  pub held : SoundMemory m
  pub accepted : judged m e ≡ 0
  pub named : NamedAt m e p w

-- and beside the memory stand B and V of its open orders, or none
pub record Workable (m cells : List ℕ) (e : Event) (named : Named) : Type 0 where
  pub ready : Ready m e named.place named.detail.0
  pub sums : Sums cells (open_orders m)

-- the NEW that enters the order of an id and a detail
abbrev pub new_of : ℕ → ℕ → Event
new_of id w = let o = order_of id w in New o.side o.account o.instrument id (pos o.total)

-- a change that has passed 9 and 12 of an order in range, which an id and detail w make
pub record Fitting (c : OrderChange) (w : ℕ) : Type 0 where
  pub id : ℕ
  pub figures : change_in_range c ≡ true
  pub fits : fits_order c (order_of id w) ≡ true
  pub total : (order_of id w).total ≤ 1000000

-- figures of a line that pass question 9 in a market whose largest figure is at most 1,000,000,000, so that each fits half a word
pub record LineStorable (f : Figures) : Type 0 where
  pub largest : ℕ
  pub most : largest ≤ 1000000000
  pub fits : figures_of_line_fit largest f ≡ true

-- and the two of a group's line
pub record GroupLineStorable (lcc lvc : ℤ) : Type 0 where
  pub largest : ℕ
  pub most : largest ≤ 1000000000
  pub fits : line_fits largest (OfGroup 0 lcc lvc) ≡ true

abbrev pub line_stored : List ℕ → ℕ → LimitLine → List ℕ
line_stored m a (Own i f) = store_own m a i (line_of f)
line_stored m a (Default c f) = store_default m a c (line_of f)
line_stored m a (OfGroup g x y) = store_of_group m a g (group_line_of x y)

abbrev pub block_stored : List ℕ → Blocked → Bool → List ℕ
block_stored m (Account a) on = block_account m a on
block_stored m (Instrument i) on = block_instrument m i on
block_stored m (GroupFor a g) on = block_group m a g on

-- the memory after a setting
abbrev pub setting_stored : List ℕ → Setting → List ℕ
setting_stored m (Limit a l) = line_stored m a l
setting_stored m (Balance a i z) = store_balance m a i z
setting_stored m (Block what z) = block_stored m what (not (is_zero z))

-- where the first record stands when the order found at a place leaves
abbrev pub gone_first : List ℕ → Option ℕ → ℕ
gone_first m None = first_of m
gone_first m (Some p) = left_first m p

-- and when it becomes what a change makes of it: another place only where it leaves
abbrev pub first_after : List ℕ → Option ℕ → List Order → ℕ
first_after m found [] = gone_first m found
first_after m found (o ∷ os) = first_of m

-- the records when the order at place p becomes o: at remaining 0 it leaves
abbrev pub order_kept : List ℕ → ℕ → Order → List ℕ
order_kept m p o =
    cond (closes o) (store_from m (left_first m p) (without p (open_orders m))) (store_from m (first_of m) (set (open_orders m) p o))

-- the records after a change of the open order o
abbrev pub records_changed : List ℕ → ℕ → OrderChange → Order → List ℕ
records_changed m id c o =
    store_from m (first_after m (place_from 0 id (open_orders m)) (changed c o)) (change id (changed c) (open_orders m))

-- the memory after a change of the order found: its record changes or leaves, and the balance of its account and instrument moves by what
-- is filled
abbrev pub order_changed : List ℕ → ℕ → OrderChange → Option Order → List ℕ
order_changed m id c None = m
order_changed m id c (Some o) =
    store_balance (records_changed m id c o) o.account o.instrument
    (balances_of m o.account o.instrument +ℤ fill_moves (market_of m).unit o.account o.instrument o (filled_in c))

-- the memory after the event
unfoldable pub worked : List ℕ → Event → List ℕ
worked m (Set x) = setting_stored m x
worked m (New s a i id n) =
    store_mark (store_from m (joined_first m (rank id (open_orders m))) (insert (new_order s a i id n) (open_orders m))) a
worked m (Change id c) = order_changed m id c (find id (open_orders m))
worked m Junk = m
