-- What the passes over a memory's open orders answer.
use Rattle.std.specs.Prelude.{◌-◌, ◌≤◌, ◌<◌, ◌≡◌}
use Rattle.integers.specs.Basics.{ℕ, true, List}
use Rattle.words.specs.Words.{word_at}
use Rattle.ledger.specs.declared.order.Order.{Order}
use Rattle.ledger.specs.Orders.{remaining}
use Rattle.ledger.specs.Records.{Within, order_at, orders_from}
use Rattle.ledger.specs.Roster.{Numbered}
use Rattle.memory_layout.specs.Layout.{count_word}
use Rattle.memory_layout.specs.View.{roster_of, open_orders, trading_of}
use Rattle.memory_layout.specs.Stores.{order_in}
use Rattle.memory_soundness.specs.Soundness.{ascend}

-- P holds of each open order
abbrev pub Each : List ℕ → (Order → Type 0) → Type 0
Each m P = (p : ℕ) → p < word_at m count_word → P (order_in m p)

-- something remains of the order
abbrev pub Remains : Order → Type 0
Remains o = 1 ≤ remaining o

-- the ids ascend, and something remains of each order
abbrev pub InOrder : List ℕ → Type 0
InOrder m = (ascend 0 (open_orders m) ≡ true) × Each m Remains

-- or that is not so
pub record OutOfOrder (m : List ℕ) : Type 0 where
  pub lacks : InOrder m → ⊥

-- its total is in range, where something remains of it
abbrev pub TotalFits : Order → Type 0
TotalFits o = o.total ≤ 1000000

-- its account and instrument are on the roster, and the account is marked as trading
pub record Marked (m : List ℕ) (o : Order) : Type 0 where
  pub account : Numbered (roster_of m).accounts o.account
  pub instrument : Numbered (roster_of m).instruments o.instrument
  pub marked : trading_of m o.account ≡ true

-- ---- the pass over the records
-- those below p have ascending ids up to `last`, something remains of each, and `details` has the bits of all
pub record Passed (s : List ℕ) (p last details : ℕ) : Type 0 where
  pub ids : (n : ℕ) → p ≤ n → ascend 0 (orders_from s 0 n) ≡ ascend last (orders_from s p (n - p))
  pub remain : (q : ℕ) → q < p → Remains (order_at s q)
  pub within : (q : ℕ) → q < p → Within details (order_at s q)

-- one order stops it: its id is not above the last one, or nothing remains of it
pub record Stops (last : ℕ) (o : Order) : Type 0 where
  pub lacks : last < o.id → Remains o → ⊥

-- or it goes on over the order
pub record GoesOn (last details : ℕ) (o : Order) (new_last new_details : ℕ) : Type 0 where
  pub above : last < o.id
  pub its_id : new_last ≡ o.id
  pub remains : Remains o
  pub within : (x : Order) → Within details x → Within new_details x
  pub own : Within new_details o
