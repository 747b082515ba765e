-- What remains decides which store is made, as whether the order closes decides in the definition.
use Rattle.integers.specs.Basics.{◌∙◌, sym, eq-eqb, ne_eqb}
use Rattle.ledger.specs.Orders.{remaining, closes}
use Rattle.ledger.specs.Records.{order_of}
use Rattle.memory_working.proofs.orders.keep_order.Goals as goal

pub returns-then-remaining-eq0 : goal.returns-then-remaining-eq0
unfolding closes
returns-then-remaining-eq0 c =
    let none = sym (c.remaining.ensures.of_order c.args.id) ∙ c.if-remaining-eq0.true in
    rw (eq-eqb (remaining (order_of c.args.id c.args.next.0)) 0 none) c.remove_order.ensures

pub returns-else-remaining-eq0 : goal.returns-else-remaining-eq0
unfolding closes
returns-else-remaining-eq0 c =
    let read = c.remaining.ensures.of_order c.args.id in
    rw (ne_eqb (remaining (order_of c.args.id c.args.next.0)) 0 (λ e. c.if-remaining-eq0.false (read ∙ e))) c.replace_order.ensures
