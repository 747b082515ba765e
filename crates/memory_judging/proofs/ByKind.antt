-- The table's first no, kind of event by kind: each question in its order, and how it is asked of a desk's memory.
use Rattle.std.specs.Prelude.{◌≡◌}
use Rattle.std.proofs.lemmas.Bool.Decides.{nat_tests}
use Rattle.integers.specs.Basics.{ℕ, refl, Bool, true, not, cond, List, Option, Some, ℤ, pos, neg_ℤ, nat_abs, ltb, leb}
use Rattle.ledger.specs.declared.order.Order.{Order}
use Rattle.ledger.specs.declared.order.Side.{Side}
use Rattle.ledger.specs.Orders.{remaining, replaced_total}
use Rattle.ledger.specs.Records.{order_of}
use Rattle.limits.specs.Lines.{is_set}
use Rattle.limits.specs.Questions.{first_no}
use Rattle.book.specs.declared.Blocked.{Blocked}
use Rattle.book.specs.declared.LimitLine.{LimitLine}
use Rattle.book.specs.declared.Setting.{Setting}
use Rattle.book.specs.declared.Setting.TheVariants.{Limit, Balance, Block}
use Rattle.book.specs.declared.OrderChange.{OrderChange}
use Rattle.book.specs.declared.OrderChange.TheVariants.{Replace, Cancel, Fill}
use Rattle.book.specs.declared.Event.{Event}
use Rattle.book.specs.declared.Event.TheVariants.{Set, New, Change, Junk}
use Rattle.book.specs.Settings.{limited_item, blocked_account, blocked_item, setting_account, setting_item}
use Rattle.book.specs.Decoding.{between}
use Rattle.book.specs.OpenOrders.{find}
use Rattle.book.specs.Table.{is_event, account_known, setting_in_range, is_listed, item_known, line_fits, between_ℤ, change_in_range, is_quantity}
use Rattle.book.specs.Table.{figures_fit, where_some, not_yet_trading, id_open, fits_order, quantity_fits, entered, id_free, place_free}
use Rattle.book.specs.Table.{questions_before, limit_questions, answer}
use Rattle.memory_layout.specs.View.{market_of, roster_of, trading_of, open_orders, book_of}
use Rattle.memory_layout.specs.Judged.{judged}
use Rattle.memory_judging.specs.declared.entries.Entry.TheVariants.{Replaces}
use Rattle.memory_judging.specs.Entries.{entry_event}
use Rattle.memory_judging.specs.QuestionsLeft.{left_after}
use Rattle.memory_judging.proofs.Figures.{whole_quantity}

module _ (m : List ℕ) where
  by_figures : (e : Event) → is_event e ≡ true → judged m e ≡
      cond (account_known (roster_of m) e) (cond (item_known (roster_of m) e)
      (cond (figures_fit (market_of m) e) (first_no (left_after 9 m e)) 9) 8) 7
  unfolding judged answer questions_before first_no left_after
  by_figures e is = rw is

  -- of any setting, by what it names
  pub set_answer : (x : Setting) (p q r : Bool) → where_some (between 1 (roster_of m).accounts) (setting_account x) ≡ p
      → where_some (is_listed (roster_of m)) (setting_item x) ≡ q → setting_in_range (market_of m) x ≡ r
      → judged m (Set x) ≡ cond p (cond q (cond r (first_no (left_after 9 m (Set x))) 9) 8) 7
  unfolding is_event account_known item_known figures_fit
  set_answer x p q r d e f = rw (by_figures (Set x) refl, d, e, f) refl

  pub limit_judged : (account : ℕ) (line : LimitLine) → judged m (Set (Limit account line)) ≡
      cond (between 1 (roster_of m).accounts account) (cond (is_listed (roster_of m) (limited_item line))
      (cond (line_fits (market_of m).largest line) 0 9) 8) 7
  unfolding is_event account_known item_known figures_fit not_yet_trading id_open quantity_fits entered id_free place_free questions_before
      limit_questions first_no left_after
  limit_judged account line = by_figures (Set (Limit account line)) refl

  pub balance_judged : (account instrument : ℕ) (balance : ℤ) → judged m (Set (Balance account instrument balance)) ≡
      cond (between 1 (roster_of m).accounts account) (cond (between 1 (roster_of m).instruments instrument)
      (cond (between_ℤ (neg_ℤ (pos (market_of m).largest)) (pos (market_of m).largest) balance)
      (cond (not (trading_of m account)) 0 10) 9) 8) 7
  unfolding is_event account_known item_known figures_fit not_yet_trading id_open quantity_fits entered id_free place_free questions_before
      limit_questions first_no left_after
  balance_judged account instrument balance = by_figures (Set (Balance account instrument balance)) refl

  pub block_judged : (what : Blocked) (on : ℤ) → judged m (Set (Block what on)) ≡
      cond (where_some (between 1 (roster_of m).accounts) (blocked_account what))
      (cond (where_some (is_listed (roster_of m)) (blocked_item what)) (cond (between_ℤ (pos 0) (pos 1) on) 0 9) 8) 7
  unfolding is_event account_known item_known figures_fit not_yet_trading id_open quantity_fits entered id_free place_free questions_before
      limit_questions first_no left_after
  block_judged what on = by_figures (Set (Block what on)) refl

  -- a NEW is asked none of 10 to 12
  pub new_judged : (side : Side) (account instrument id : ℕ) (n : ℤ) → judged m (New side account instrument id n) ≡
      cond (between 1 (roster_of m).accounts account) (cond (between 1 (roster_of m).instruments instrument)
      (cond (is_quantity n) (first_no (left_after 12 m (New side account instrument id n))) 9) 8) 7
  unfolding is_event account_known item_known figures_fit not_yet_trading id_open quantity_fits questions_before first_no left_after
  new_judged side account instrument id n = by_figures (New side account instrument id n) refl

  pub junk_judged : judged m Junk ≡ 6
  unfolding judged answer questions_before is_event first_no
  junk_judged = refl

  -- a change is asked none of 7, 8 and 10
  pub change_judged : (id : ℕ) (c : OrderChange) → judged m (Change id c) ≡
      cond (change_in_range c) (cond (is_set (find id (open_orders m))) (first_no (left_after 11 m (Change id c))) 11) 9
  unfolding is_event account_known item_known figures_fit not_yet_trading id_open questions_before first_no left_after book_of
  change_judged id c = by_figures (Change id c) refl

  pub change_answer : (id : ℕ) (c : OrderChange) (x : Option Order) → change_in_range c ≡ true → find id (open_orders m) ≡ x
      → judged m (Change id c) ≡ cond (is_set x) (first_no (left_after 11 m (Change id c))) 11
  change_answer id c x d e = rw (change_judged id c, d, e) refl

  -- ---- what is left of a change of the order found: 12 first
  module _ (id : ℕ) (o : Order) (found : find id (open_orders m) ≡ Some o) where
    fits : (c : OrderChange) → quantity_fits (book_of m) (Change id c) ≡ fits_order c o
    unfolding quantity_fits book_of
    fits c = rw found

    pub cancel_left : first_no (left_after 11 m (Change id Cancel)) ≡ 0
    unfolding left_after questions_before limit_questions entered id_free place_free first_no
    cancel_left = rw (fits Cancel)

    pub fill_left : (n : ℤ) → first_no (left_after 11 m (Change id (Fill n))) ≡ cond (leb (nat_abs n) (remaining o)) 0 12
    unfolding left_after questions_before limit_questions entered id_free place_free first_no
    fill_left n = rw (fits (Fill n))

  pub replace_left : (o : Order) (n : ℕ) → find o.id (open_orders m) ≡ Some o
      → first_no (left_after 11 m (Change o.id (Replace (pos n))))
      ≡ cond (ltb o.filled n) (first_no (left_after 12 m (Change o.id (Replace (pos n))))) 12
  unfolding questions_before first_no left_after
  replace_left o n found = rw (fits o.id o found (Replace (pos n)))

-- an order is given with its id beside its detail
pub id_of_order : (id w : ℕ) → (order_of id w).id ≡ id
unfolding order_of
id_of_order id w = refl

-- the order with its new total is judged as the change that makes it so
pub replaced_event : (o : Order) (n total : ℕ) → entry_event (Replaces n) (replaced_total o total) ≡ Change o.id (Replace (pos total))
unfolding entry_event replaced_total
replaced_event o n total = refl

pub ruleset changes_left = (replace_left, cancel_left, fill_left, id_of_order, replaced_event, whole_quantity, nat_tests)
