-- What a change makes of an order, case by case. Laws that go through all the cases of a change stand here, and the others take them.
use Rattle.std.specs.Prelude.{◌+◌, ◌-◌, ◌≤◌, ◌<◌, ◌≡◌}
use Rattle.integers.specs.Basics.{refl, ◌∙◌, sym, ap, true, Option, None, Some, ℤ, nat_abs, ltb, arith}
use Rattle.integers.specs.Basics.{leb-true, ltb-true, ltb-false}
use Rattle.ledger.specs.declared.order.Order.{Order}
use Rattle.ledger.specs.Orders.{remaining, filled_by, replaced_total}
use Rattle.ledger.proofs.Amounts.{Alike}
use Rattle.ledger.proofs.Ways.{by_test}
use Rattle.limits.proofs.LineLaws.{none_some}
use Rattle.book.specs.declared.OrderChange.{OrderChange}
use Rattle.book.specs.declared.OrderChange.TheVariants.{Replace, Cancel, Fill}
use Rattle.book.specs.Market.{Market}
use Rattle.book.specs.Books.{order_after, filled_in}
use Rattle.book.specs.Table.{change_in_range, fits_order, raised}
use Rattle.book.proofs.Tables.{quantity_numbered}

-- it is the same order but for its total and what is filled
pub record SameOrder (o o' : Order) : Type 0 where
  pub id : o'.id ≡ o.id
  pub account : o'.account ≡ o.account
  pub instrument : o'.instrument ≡ o.instrument
  pub side : o'.side ≡ o.side

pub same_order : (c : OrderChange) (o : Order) → SameOrder o (order_after c o)
unfolding order_after replaced_total filled_by
same_order (Replace n) o = record { id = refl; account = refl; instrument = refl; side = refl }
same_order Cancel o = record { id = refl; account = refl; instrument = refl; side = refl }
same_order (Fill n) o = record { id = refl; account = refl; instrument = refl; side = refl }

-- and a contract of it counts for the same
same_unit : (mk : Market) (c : OrderChange) (o : Order) → mk.unit (order_after c o) ≡ mk.unit o
unfolding order_after
same_unit mk (Replace n) o = mk.unit_replaced o (nat_abs n)
same_unit mk Cancel o = mk.unit_replaced o o.filled
same_unit mk (Fill n) o = mk.unit_filled o (nat_abs n)

pub after_alike : (mk : Market) (c : OrderChange) (o : Order) → Alike mk.unit o (order_after c o)
after_alike mk c o =
    let s = same_order c o in
    record { same_account = s.account; same_instrument = s.instrument; same_side_lem = s.side; same_unit = same_unit mk c o }

-- so many contracts more are filled
pub after_filled : (c : OrderChange) (o : Order) → (order_after c o).filled ≡ o.filled + filled_in c
unfolding order_after replaced_total filled_by
after_filled (Replace n) o = omega arith
after_filled Cancel o = omega arith
after_filled (Fill n) o = refl

-- what remains by each: after a REPLACE the new total less what is filled, after a CANCEL nothing; of a FILL by no more than remains, what
-- remains and is filled is what remained
pub replace_remains : (o : Order) (n : ℤ) → remaining (order_after (Replace n) o) ≡ nat_abs n - o.filled
unfolding order_after replaced_total remaining
replace_remains o n = refl

pub cancel_remains : (o : Order) → remaining (order_after Cancel o) ≡ 0
unfolding order_after replaced_total remaining
cancel_remains o = omega arith

pub fill_remains : (o : Order) (n : ℤ) → nat_abs n ≤ remaining o → remaining (order_after (Fill n) o) + nat_abs n ≡ remaining o
unfolding order_after filled_by remaining
fill_remains o n most = omega arith

-- past 9 and 12, the total stays in range, and no more is filled than it
pub after_fits : (c : OrderChange) (o : Order) → o.filled ≤ o.total → o.total ≤ 1000000 → change_in_range c ≡ true → fits_order c o ≡ true
    → ((order_after c o).total ≤ 1000000) × ((order_after c o).filled ≤ (order_after c o).total)
unfolding order_after replaced_total filled_by remaining
after_fits (Replace n) o whole small figures fits =
    let above = ltb-true o.filled (nat_abs n) fits in
    ((quantity_numbered n figures).1, omega arith)
after_fits Cancel o whole small figures fits = (omega arith, omega arith)
after_fits (Fill n) o whole small figures fits = let most = leb-true (nat_abs n) (o.total - o.filled) fits in (small, omega arith)

-- ---- what it raises
-- the order raised is one that was found, at the new total, by a REPLACE
pub raised_found : (c : OrderChange) (x : Option Order) (o : Order) → raised c x ≡ Some o
    → (n : ℤ) × (y : Order) × (c ≡ Replace n) × (x ≡ Some y) × (y.total < nat_abs n) × (o ≡ replaced_total y (nat_abs n))
raised_found (Replace n) None o e = none_some o e
raised_found (Replace n) (Some y) o e =
    by_test (ltb y.total (nat_abs n))
    (λ t. let same = rw t at e in (n, y, refl, refl, ltb-true y.total (nat_abs n) t, cc)) (λ t. none_some o (rw t at e))
raised_found Cancel x o e = none_some o e
raised_found (Fill n) x o e = none_some o e

-- it is what the change makes of the order found
pub raised_after : (c : OrderChange) (y o : Order) → raised c (Some y) ≡ Some o → o ≡ order_after c y
unfolding order_after
raised_after c y o e =
    let h = raised_found c (Some y) o e in
    let same : y ≡ h.1 = cc h.3 in
    h.5 ∙ ap (λ z. replaced_total z (nat_abs h.0)) (sym same) ∙ sym (ap (λ d. order_after d y) h.2)

-- where it raises none, no more remains and is filled than remained
pub not_raised : (c : OrderChange) (o : Order) → raised c (Some o) ≡ None → fits_order c o ≡ true
    → remaining (order_after c o) + filled_in c ≤ remaining o
unfolding order_after replaced_total filled_by remaining
not_raised (Replace n) o e fits =
    by_test (ltb o.total (nat_abs n)) (λ t. none_some _ (sym (rw t at e)))
    (λ t. let down = ltb-false o.total (nat_abs n) t in omega arith)
not_raised Cancel o e fits = omega arith
not_raised (Fill n) o e fits = let most = leb-true (nat_abs n) (o.total - o.filled) fits in omega arith
