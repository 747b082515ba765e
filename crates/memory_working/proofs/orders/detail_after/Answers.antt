-- Each change by its own method of the detail, with its figure, which is in range, as a whole number.
use Rattle.integers.specs.Basics.{nat_abs, w64, SFits, to_z-of_z, arith, rules, ltb-true, leb-true}
use Rattle.ledger.specs.Records.{order_of}
use Rattle.ledger.proofs.Details.{remaining_of}
use Rattle.book.specs.Books.{order_after}
use Rattle.memory_working.proofs.AcceptedFacts.{quantity}
use Rattle.memory_working.proofs.orders.detail_after.Goals as goal

pub replaced_total-requires : goal.replaced_total-requires
unfolding order_of
replaced_total-requires c =
    let fits : SFits w64 c.in-Replace.total = search rules in
    let f = rw c.in-Replace.is at c.requires in
    let in_range = quantity c.in-Replace.total f.figures in
    let above = ltb-true _ (nat_abs c.in-Replace.total) f.fits in
    rw (to_z-of_z w64 c.in-Replace.total fits) (omega (arith, in_range.1))

pub filled_by-requires : goal.filled_by-requires
unfolding order_of
filled_by-requires c =
    let fits : SFits w64 c.in-Fill.quantity = search rules in
    let f = rw c.in-Fill.is at c.requires in
    let in_range = quantity c.in-Fill.quantity f.figures in
    let most = leb-true (nat_abs c.in-Fill.quantity) _ f.fits in
    rw (to_z-of_z w64 c.in-Fill.quantity fits) (omega (arith, remaining_of f.id c.args.w.0, in_range.1, f.total))

pub returns-in-Replace : goal.returns-in-Replace
unfolding order_after
returns-in-Replace c id =
    let fits : SFits w64 c.in-Replace.total = search rules in
    rw c.in-Replace.is (rw (to_z-of_z w64 _ fits) at (c.replaced_total.ensures id))

pub returns-in-Cancel : goal.returns-in-Cancel
unfolding order_after
returns-in-Cancel c id = rw c.in-Cancel.is (rw (c.filled.ensures.of_order id) at (c.replaced_total-in-Cancel.ensures id))

pub returns-in-Fill : goal.returns-in-Fill
unfolding order_after
returns-in-Fill c id =
    let fits : SFits w64 c.in-Fill.quantity = search rules in
    rw c.in-Fill.is (rw (to_z-of_z w64 _ fits) at (c.filled_by.ensures id))
