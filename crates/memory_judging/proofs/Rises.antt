-- The order that a NEW enters or a REPLACE makes of an open one: that it is on the roster, and what 14 to 24 ask of it.
use mathlib.Core.Logic.{∥∥₁_elim}
use denote.Struct.Props.{props}
use Rattle.std.specs.Prelude.{◌-◌, ◌≤◌, ◌<◌, ◌≡◌, ◌∷◌, ◌++◌}
use Rattle.std.proofs.lemmas.Bool.Decides.{nat_tests}
use Rattle.integers.specs.Basics.{ℕ, refl, ◌∙◌, sym, ap, true, not, cond, List, Some, pos, length, ltb, eqb, arith, lt-ltb, le-ltb}
use Rattle.ledger.specs.declared.order.Order.{Order}
use Rattle.ledger.specs.Orders.{remaining, replaced_total}
use Rattle.limits.specs.Lines.{is_set}
use Rattle.limits.specs.Questions.{first_no}
use Rattle.limits.specs.Asked.{position_questions}
use Rattle.limits.specs.Numbers.{size_questions}
use Rattle.limits.specs.Raised.{Raised}
use Rattle.limits.proofs.Raising.{raised_by_new, raised_by_replace}
use Rattle.book.specs.declared.OrderChange.TheVariants.{Replace}
use Rattle.book.specs.OpenOrders.{find, insert, change}
use Rattle.book.specs.Books.{order_after, changed, new_order, book_after}
use Rattle.book.specs.Sound.{OrderFits}
use Rattle.book.specs.Table.{q, id_free, place_free, entered, questions_before, limit_questions}
use Rattle.book.proofs.Cuts.{insert_sums, standing, standing_member, change_sums}
use Rattle.book.proofs.Tables.{quantity_numbered, between_numbered}
use Rattle.book.proofs.Shifts.{kept_some, none_filled}
use Rattle.memory_layout.specs.View.{market_of, roster_of, balances_of, open_orders, book_of}
use Rattle.memory_soundness.proofs.Bounded.{storable}
use Rattle.memory_judging.specs.declared.entries.Entry.{Entry}
use Rattle.memory_judging.specs.declared.entries.Entry.TheVariants.{Joins, Replaces}
use Rattle.memory_judging.specs.OrderQuestions.{admission, within_limits, OnRoster, Sizable}
use Rattle.memory_judging.specs.QuestionsLeft.{left_after}
use Rattle.memory_judging.specs.Entries.{entry_event, former_total, Fresh, Changeable, Enters}
use Rattle.memory_judging.proofs.ByKind.{new_judged}
use Rattle.memory_judging.proofs.Figures.{whole_quantity}
use Rattle.memory_judging.proofs.QuestionsInOrder.{refusal_counts, admission_first, limits_set_lem}

-- the open orders with it
abbrev pub orders_with : List ℕ → Order → Entry → List Order
orders_with m o (Joins p) = insert o (open_orders m)
orders_with m o (Replaces n) = change o.id (changed (Replace (pos o.total))) (open_orders m)

-- what is left of an order whose total rises
record Rising (m : List ℕ) (o : Order) (how : Entry) : Type 0 where
  raises : Raised (o.total - former_total how) o (open_orders m) (orders_with m o how)
  from_14 : left_after 13 m (entry_event how o) ≡ admission m o ++ left_after 17 m (entry_event how o)
  from_18 : left_after 17 m (entry_event how o)
      ≡ q 18 (place_free (book_of m) (entry_event how o)) ∷ within_limits m (orders_with m o how) o

-- ---- of a NEW: nothing of it is filled, all of it is added
module _ (m : List ℕ) (o : Order) (p : ℕ) (f : Fresh m o p) where
  is_new : new_order o.side o.account o.instrument o.id (pos o.total) ≡ o
  unfolding new_order
  is_new =
      ap (λ (n : ℕ). record {
        id = o.id;
        account = o.account;
        instrument = o.instrument;
        side = o.side;
        total = o.total;
        filled = n;
      }) (sym f.unfilled)

  all_added : Raised (o.total - 0) o (open_orders m) (insert o (open_orders m))
  unfolding remaining
  all_added =
      let whole : o.total - o.filled ≡ o.total - 0 = omega (arith, f.unfilled) in
      rw whole at (raised_by_new o (open_orders m) (insert o (open_orders m)) (insert_sums o (open_orders m)))

  new_rising : Rising m o (Joins p)
  unfolding entry_event left_after questions_before limit_questions entered place_free book_after admission within_limits size_questions
      position_questions book_of
  new_rising =
      record {
        raises = all_added;
        from_14 = rw is_new refl;
        from_18 = rw is_new refl;
      }

-- ---- of a REPLACE of open order o: the rise is added
module _ (m : List ℕ) (o : Order) (total : ℕ) (r : Changeable m o (Replace (pos total))) (above : o.filled < total) where
  open_fits : OrderFits (roster_of m) o
  unfolding book_of
  open_fits = r.held.book.fits o (standing_member (standing o.id (open_orders m) o r.found))

  replaced_on : OnRoster m (replaced_total o total)
  unfolding replaced_total
  replaced_on = record { account = open_fits.account; instrument = open_fits.instrument }

  rise_added : o.total < total
      → Raised (total - o.total) (replaced_total o total) (open_orders m) (change o.id (changed (Replace (pos total))) (open_orders m))
  unfolding changed order_after remaining replaced_total
  rise_added h =
      let f = changed (Replace (pos total)) in
      raised_by_replace o (open_orders m) (change o.id f (open_orders m)) total (omega (arith, open_fits.remains)) (omega arith)
      (change_sums (standing o.id (open_orders m) o r.found) f (replaced_total o total)
      (kept_some (replaced_total o total) (omega arith)))

  replaced_rising : o.total < total → Rising m (replaced_total o total) (Replaces o.total)
  unfolding entry_event left_after questions_before limit_questions entered place_free book_after admission within_limits size_questions
      position_questions book_of replaced_total
  replaced_rising h =
      record {
        raises = rise_added h;
        from_14 = rw (r.found, lt-ltb o.total total h) refl;
        from_18 =
            rw (r.found, lt-ltb o.total total h, none_filled (market_of m).unit (Some o) (balances_of m) o.account) refl;
      }

  -- nothing is asked where the total does not rise
  replaced_unraised : total ≤ o.total → first_no (left_after 13 m (entry_event (Replaces o.total) (replaced_total o total))) ≡ 0
  unfolding entry_event left_after questions_before limit_questions entered place_free first_no book_of replaced_total
  replaced_unraised h = rw (r.found, le-ltb o.total total h)

-- ---- 13 and 18, which are asked of a NEW alone
module _ (m : List ℕ) (o : Order) where
  pub new_id : (p : ℕ) → id_free (book_of m) (entry_event (Joins p) o) ≡ not (is_set (find o.id (open_orders m)))
  unfolding id_free entry_event new_order book_of
  new_id p = refl

  pub replaced_id : (n : ℕ) → id_free (book_of m) (entry_event (Replaces n) o) ≡ true
  unfolding id_free entry_event
  replaced_id n = refl

  pub new_place : (p : ℕ) → place_free (book_of m) (entry_event (Joins p) o) ≡ ltb (length (open_orders m)) 256
  unfolding place_free entry_event book_of
  new_place p = refl

  pub replaced_place : (n : ℕ) → place_free (book_of m) (entry_event (Replaces n) o) ≡ true
  unfolding place_free entry_event
  replaced_place n = refl

pub ruleset of_new_alone = (new_id, replaced_id, new_place, replaced_place)

-- ---- of either
module _ (m : List ℕ) (o : Order) (how : Entry) where
  -- 13 is asked first
  pub left_12 : first_no (left_after 12 m (entry_event how o))
      ≡ cond (id_free (book_of m) (entry_event how o)) (first_no (left_after 13 m (entry_event how o))) 13
  unfolding first_no left_after questions_before
  left_12 = refl

entered_on : (m : List ℕ) (o : Order) (how : Entry) → Enters m o how → OnRoster m o
entered_on m o (Joins p) f = f.on
entered_on m o (Replaces n) r = rw r.is (replaced_on m r.former r.total r.changes r.above)

entered_most : (m : List ℕ) (o : Order) (how : Entry) → Enters m o how → o.total ≤ 1000000
unfolding replaced_total
entered_most m o (Joins p) f = f.most
entered_most m o (Replaces n) r = rw r.is (quantity_numbered (pos r.total) r.changes.figures).1

not_raised : (m : List ℕ) (o : Order) (how : Entry) → Enters m o how → o.total ≤ former_total how
    → first_no (left_after 13 m (entry_event how o)) ≡ 0
unfolding replaced_total
not_raised m o (Joins p) f h = absurd (omega (arith, f.least))
not_raised m o (Replaces n) r h =
    rw (r.is, r.was) (replaced_unraised m r.former r.total r.changes r.above (rw (r.is, r.was) at h))

rising : (m : List ℕ) (o : Order) (how : Entry) → Enters m o how → former_total how < o.total → Rising m o how
unfolding replaced_total
rising m o (Joins p) f h = new_rising m o p f
rising m o (Replaces n) r h =
    rw (r.is, r.was) (replaced_rising m r.former r.total r.changes r.above (rw (r.is, r.was) at h))

-- ---- of an order that is known to enter, in either way
module _ (m : List ℕ) (o : Order) (how : Entry) (entering : ∥ Enters m o how ∥₁) where
  pub enters_on : OnRoster m o
  enters_on = ∥∥₁_elim entering (hlevel props) (entered_on m o how)

  -- where its total does not rise, nothing more is asked
  pub unraised : o.total ≤ former_total how → first_no (left_after 13 m (entry_event how o)) ≡ 0
  unraised h = ∥∥₁_elim entering (hlevel props) (λ e. not_raised m o how e h)

  pub sizable : first_no (admission m o) ≡ 0 → Sizable m o (o.total - former_total how)
  sizable passes =
      let most : o.total ≤ 1000000 = ∥∥₁_elim entering (hlevel props) (entered_most m o how) in
      record {
        set = limits_set_lem m o passes;
        total = most;
        small = omega (arith, most);
      }

  -- where it rises, 14 to 17 are asked, then 18, and then 19 to 24 of the orders with it
  module _ (h : former_total how < o.total) where
    pub left_13 : first_no (left_after 13 m (entry_event how o))
        ≡ cond (eqb (first_no (admission m o)) 0) (first_no (left_after 17 m (entry_event how o))) (first_no (admission m o))
    left_13 =
        ∥∥₁_elim entering (hlevel props) (λ e. ap first_no (rising m o how e h).from_14 ∙ admission_first m o _)

    pub left_17 : first_no (left_after 17 m (entry_event how o))
        ≡ cond (place_free (book_of m) (entry_event how o)) (first_no (within_limits m (orders_with m o how) o)) 18
    unfolding first_no
    left_17 = ∥∥₁_elim entering (hlevel props) (λ e. rw (rising m o how e h).from_18)

    pub raises : Raised (o.total - former_total how) o (open_orders m) (orders_with m o how)
    raises = ∥∥₁_elim entering (hlevel props) (λ e. (rising m o how e h).raises)

pub ruleset entering = (left_12, unraised, enters_on, left_13, left_17, raises, sizable, refusal_counts, nat_tests)

-- of a NEW that 7 to 9 put on the roster
pub ruleset joining = (new_judged, whole_quantity, quantity_numbered, between_numbered, storable)
