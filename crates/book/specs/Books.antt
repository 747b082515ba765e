-- Document 01, "The plain book", and what an accepted event does to it.
use Rattle.std.specs.Prelude.{◌&&◌, ◌+ℤ◌}
use Rattle.integers.specs.Basics.{ℕ, Bool, false, not, cond, List, [], Option, None, Some, ℤ, pos, negsuc, nat_abs, eqb}
use Rattle.ledger.specs.declared.order.Order.{Order}
use Rattle.ledger.specs.declared.order.Side.{Side}
use Rattle.ledger.specs.Orders.{filled_by, replaced_total}
use Rattle.ledger.specs.Fillings.{fill_moves}
use Rattle.limits.specs.declared.lines.Line.{Line}
use Rattle.limits.specs.declared.lines.GroupLine.{GroupLine}
use Rattle.limits.specs.Lines.{Lines}
use Rattle.limits.specs.Asked.{is_zero}
use Rattle.book.specs.declared.Figures.{Figures}
use Rattle.book.specs.declared.LimitLine.{LimitLine}
use Rattle.book.specs.declared.LimitLine.TheVariants.{Own, Default, OfGroup}
use Rattle.book.specs.declared.Blocked.{Blocked}
use Rattle.book.specs.declared.Blocked.TheVariants.{Account, Instrument, GroupFor}
use Rattle.book.specs.declared.OrderChange.{OrderChange}
use Rattle.book.specs.declared.OrderChange.TheVariants.{Replace, Cancel, Fill}
use Rattle.book.specs.declared.Setting.{Setting}
use Rattle.book.specs.declared.Event.{Event}
use Rattle.book.specs.declared.Event.TheVariants.{Set, New, Change, Junk}
use Rattle.book.specs.Settings.{IsLimit, as_limit, IsBalance, as_balance, IsBlock, as_block}
use Rattle.book.specs.OpenOrders.{find, insert, change, kept}

-- which accounts, instruments (for all) and groups (for an account) are blocked
pub record Blocks : Type 0 where
  pub account : ℕ → Bool
  pub instrument : ℕ → Bool
  pub group : ℕ → ℕ → Bool

-- balances S by account and instrument, lines by account, blocks, open orders ascending by id
pub record Book : Type 0 where
  pub balance_of : ℕ → ℕ → ℤ
  pub lines_of : ℕ → Lines
  pub blocks : Blocks
  pub orders : List Order

-- it begins with balances 0 and no line, block or open order
unfoldable pub empty_book : Book
empty_book =
    record {
      balance_of = λ a i. pos 0;
      lines_of = λ a. record { own_of = λ i. None; default_of = λ c. None; line_of_group = λ g. None };
      blocks = record { account = λ a. false; instrument = λ i. false; group = λ a g. false };
      orders = [];
    }

-- a table with x at number n
abbrev pub at : {A : Type 0} → ℕ → A → (ℕ → A) → ℕ → A
at n x f k = cond (eqb k n) x (f k)

abbrev pub is_minus_one : ℤ → Bool
is_minus_one (pos n) = false
is_minus_one (negsuc n) = eqb n 0

-- −1 throughout
unfoldable pub unsets : Figures → Bool
unsets f = is_minus_one f.tci && is_minus_one f.tvi && is_minus_one f.lci && is_minus_one f.lvi

-- the line that figures name: −1 throughout means not set
unfoldable pub line_of : Figures → Option Line
line_of f =
    cond (unsets f) None
    (Some (record { tci = nat_abs f.tci; tvi = nat_abs f.tvi; lci = nat_abs f.lci; lvi = nat_abs f.lvi }))

unfoldable pub group_line_of : ℤ → ℤ → Option GroupLine
group_line_of x y =
    cond (is_minus_one x && is_minus_one y) None (Some (record { lcc = nat_abs x; lvc = nat_abs y }))

-- the figures become that line
unfoldable pub set_line : LimitLine → Lines → Lines
set_line (Own i f) ls =
    record { own_of = at i (line_of f) ls.own_of; default_of = ls.default_of; line_of_group = ls.line_of_group }
set_line (Default c f) ls =
    record { own_of = ls.own_of; default_of = at c (line_of f) ls.default_of; line_of_group = ls.line_of_group }
set_line (OfGroup g x y) ls =
    record { own_of = ls.own_of; default_of = ls.default_of; line_of_group = at g (group_line_of x y) ls.line_of_group }

-- the figure becomes that block: 1 to block, 0 to lift
unfoldable pub set_block : Blocked → Bool → Blocks → Blocks
set_block (Account a) on bs =
    record { account = at a on bs.account; instrument = bs.instrument; group = bs.group }
set_block (Instrument i) on bs =
    record { account = bs.account; instrument = at i on bs.instrument; group = bs.group }
set_block (GroupFor a g) on bs =
    record { account = bs.account; instrument = bs.instrument; group = at a (at g on (bs.group a)) bs.group }

-- the order that a NEW enters: filled 0
unfoldable pub new_order : Side → ℕ → ℕ → ℕ → ℤ → Order
new_order s a i id n =
    record { id = id; account = a; instrument = i; side = s; total = nat_abs n; filled = 0 }

-- what an order becomes by a change. REPLACE: it gets the new total. CANCEL: nothing of it remains, so that it leaves. FILL: its filled
-- rises by the quantity
unfoldable pub order_after : OrderChange → Order → Order
order_after (Replace n) o = replaced_total o (nat_abs n)
order_after Cancel o = replaced_total o o.filled
order_after (Fill n) o = filled_by o (nat_abs n)

-- what stays open of it: at remaining 0 it leaves
unfoldable pub changed : OrderChange → Order → List Order
changed c o = kept (order_after c o)

-- how many contracts a change fills
abbrev pub filled_in : OrderChange → ℕ
filled_in (Replace n) = 0
filled_in Cancel = 0
filled_in (Fill n) = nat_abs n

-- balances after n contracts of the order found are filled
abbrev pub filled_balances : (Order → ℕ) → Option Order → ℕ → (ℕ → ℕ → ℤ) → ℕ → ℕ → ℤ
filled_balances unit None n s a i = s a i
filled_balances unit (Some o) n s a i = s a i +ℤ fill_moves unit a i o n

abbrev pub with_orders : Book → List Order → Book
with_orders b os = record { balance_of = b.balance_of; lines_of = b.lines_of; blocks = b.blocks; orders = os }

-- LIMIT: the figures become that line; no other setting sets one
abbrev pub set_lines : {x : Setting} → Option (IsLimit x) → (ℕ → Lines) → ℕ → Lines
set_lines None ls = ls
set_lines (Some s) ls = at s.account (set_line s.line (ls s.account)) ls

-- BALANCE: the figure becomes that S; no other setting does
abbrev pub set_balances : {x : Setting} → Option (IsBalance x) → (ℕ → ℕ → ℤ) → ℕ → ℕ → ℤ
set_balances None S = S
set_balances (Some s) S = at s.account (at s.instrument s.balance (S s.account)) S

-- BLOCK: the figure becomes that block; no other setting does
abbrev pub set_blocks : {x : Setting} → Option (IsBlock x) → Blocks → Blocks
set_blocks None bs = bs
set_blocks (Some s) bs = set_block s.what (not (is_zero s.on)) bs

-- the book after an accepted event.
-- LIMIT, BALANCE, BLOCK: the figures become that line, S or block, and the open orders stay. NEW: an order joins. REPLACE, CANCEL, FILL:
-- the order with that id becomes what the change makes of it, and S moves by what is filled
unfoldable pub book_after : (Order → ℕ) → Book → Event → Book
book_after unit b (Set x) =
    record {
      balance_of = set_balances (as_balance x) b.balance_of;
      lines_of = set_lines (as_limit x) b.lines_of;
      blocks = set_blocks (as_block x) b.blocks;
      orders = b.orders;
    }
book_after unit b (New s a i id n) = with_orders b (insert (new_order s a i id n) b.orders)
book_after unit b (Change id c) =
    record {
      balance_of = filled_balances unit (find id b.orders) (filled_in c) b.balance_of;
      lines_of = b.lines_of;
      blocks = b.blocks;
      orders = change id (changed c) b.orders;
    }
book_after unit b Junk = b
