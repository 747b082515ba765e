-- What remains of the order comes to count, it joins at its id's rank, and its account is marked: both stores are the event's.
use Rattle.integers.specs.Basics.{rules}
use Rattle.memory_working.proofs.Changing.{new_room, order_joins}
use Rattle.memory_working.proofs.SumsMoved.{new_sums}
use Rattle.memory_working.proofs.Keeping.{recountable}
use Rattle.memory_working.proofs.orders.enter.Goals as goal

pub recount-requires : goal.recount-requires
recount-requires c =
    recountable c.args.id _ c.requires.ready.held c.requires.sums
    (new_sums (λ i. search rules) c.ranges.id.fits c.requires.ready (c.remaining.ensures.of_order c.args.id))

pub insert_order-requires : goal.insert_order-requires
insert_order-requires c = new_room c.requires.ready

pub returns : goal.returns
returns c =
    let joined = order_joins c.requires.ready _ _ c.insert_order.ensures (rw c.account.ensures at c.set_mark.ensures) in
    record {
      memory = joined;
      sums =
          rw joined
          (c.recount.ensures c.args.id _ _ c.requires.sums
          (new_sums (λ i. search rules) c.ranges.id.fits c.requires.ready (c.remaining.ensures.of_order c.args.id)));
    }
