-- Document 01's "sound", sentence by sentence, of what a desk holds. B and V are what the orders say, so that
-- they equal the orders' sums is no condition.
use Rattle.std.specs.Prelude.{◌≤◌, ◌<◌, ◌≡◌, ◌∷◌, ◌≤ℤ◌}
use Rattle.integers.specs.Basics.{ℕ, true, List, [], ListMemᴰ, Some, pos, nat_abs, length}
use Rattle.ledger.specs.declared.order.Order.{Order}
use Rattle.ledger.specs.Orders.{remaining}
use Rattle.ledger.specs.Roster.{Roster, Numbered}
use Rattle.ledger.specs.Positions.{Way, of_instrument}
use Rattle.limits.specs.declared.lines.Line.{Line}
use Rattle.limits.specs.declared.lines.GroupLine.{GroupLine}
use Rattle.limits.specs.Lines.{Lines}
use Rattle.book.specs.States.{State}

-- its roster would be accepted
pub record RosterFits (r : Roster) : Type 0 where
  pub accounts : Numbered 16 r.accounts
  pub groups : Numbered 4 r.groups
  pub contracts : Numbered 8 r.contracts
  pub instruments : Numbered 32 r.instruments
  pub group_of : (c : ℕ) → Numbered r.contracts c → Numbered r.groups (r.group_of c)
  pub contract_of : (i : ℕ) → Numbered r.instruments i → Numbered r.contracts (r.contract_of i)
  pub weight : (i : ℕ) → Numbered r.instruments i → nat_abs (r.weight i) ≤ 1000000

-- a line is in range: each figure from 0 to the largest
pub record LineFits (largest : ℕ) (l : Line) : Type 0 where
  pub tci : l.tci ≤ largest
  pub tvi : l.tvi ≤ largest
  pub lci : l.lci ≤ largest
  pub lvi : l.lvi ≤ largest

pub record GroupLineFits (largest : ℕ) (l : GroupLine) : Type 0 where
  pub lcc : l.lcc ≤ largest
  pub lvc : l.lvc ≤ largest

pub record LinesFit (largest : ℕ) (ls : Lines) : Type 0 where
  pub own : (i : ℕ) (l : Line) → ls.own_of i ≡ Some l → LineFits largest l
  pub default : (c : ℕ) (l : Line) → ls.default_of c ≡ Some l → LineFits largest l
  pub of_group : (g : ℕ) (l : GroupLine) → ls.line_of_group g ≡ Some l → GroupLineFits largest l

-- an order is in range, and what remains of it is at least 1
pub record OrderFits (r : Roster) (o : Order) : Type 0 where
  pub account : Numbered r.accounts o.account
  pub instrument : Numbered r.instruments o.instrument
  pub total : Numbered 1000000 o.total
  pub remains : 1 ≤ remaining o

-- ids above `least`, strictly ascending: from 0 on they are non-zero and differ
pub data Ascending : ℕ → List Order → Type 0 where
  nothing : {least : ℕ} → Ascending least []
  next : {least : ℕ} {o : Order} {os : List Order} → least < o.id → Ascending o.id os → Ascending least (o ∷ os)

pub record Sound (k : State) : Type 0 where
  pub roster : RosterFits k.roster
  pub lines : (a : ℕ) → LinesFit k.market.largest (k.book.lines_of a)
  pub count : length k.book.orders ≤ 256
  pub fits : (o : Order) → ListMemᴰ o k.book.orders → OrderFits k.roster o
  pub ids : Ascending 0 k.book.orders
  pub bounded :
      (a i : ℕ) (w : Way) → of_instrument k.market.unit k.book.orders a (k.book.balance_of a) i w ≤ℤ pos k.market.largest
  pub marked : (o : Order) → ListMemᴰ o k.book.orders → k.beside.trading o.account ≡ true
