-- What remains after the change counts; the record and the balance are what the definition says of the order that the event names.
use Rattle.std.specs.Prelude.{◌≡◌}
use Rattle.integers.specs.Basics.{◌∙◌, ap, pos, arith, rules}
use Rattle.book.specs.Books.{filled_in}
use Rattle.memory_soundness.proofs.Bounded.{sound_readable}
use Rattle.memory_working.proofs.Changing.{fitting, inside, kept_there}
use Rattle.memory_working.proofs.Filling.{filled_small, more_filled, both_on_roster, read_small, change_worked}
use Rattle.memory_working.proofs.SumsMoved.{change_sums}
use Rattle.memory_working.proofs.Keeping.{recountable}
use Rattle.memory_working.proofs.orders.change_order.Goals as goal

pub detail_after-next-requires : goal.detail_after-next-requires
detail_after-next-requires c = fitting c.requires.ready

pub recount-requires : goal.recount-requires
recount-requires c =
    let id = c.args.id in
    recountable id _ c.requires.ready.held c.requires.sums
    (change_sums (λ i. search rules) c.requires.ready (c.remaining.ensures.of_order id) (c.detail_after-next.ensures id)
    (c.remaining-2.ensures.of_order id))

pub invariant_of-desk : goal.invariant_of-desk
invariant_of-desk c = sound_readable _ c.requires.ready.held

pub account-requires : goal.account-requires
account-requires c = (both_on_roster c.requires.ready c.account-account.ensures c.instrument-instrument.ensures).0

pub balance-requires : goal.balance-requires
balance-requires c = rw c.account.ensures.0 (both_on_roster c.requires.ready c.account-account.ensures c.instrument-instrument.ensures).1

pub keep_order-requires : goal.keep_order-requires
keep_order-requires c = inside c.requires.ready

pub overflow_sub-filled : goal.overflow_sub-filled
overflow_sub-filled c =
    let id = c.args.id in
    let made = c.detail_after-next.ensures id in
    let more = more_filled c.requires.ready (c.filled-2.ensures.of_order id) made (c.filled.ensures.of_order id) in
    omega arith

pub balance_after-after-requires : goal.balance_after-after-requires
balance_after-after-requires c =
    let id = c.args.id in
    let made = c.detail_after-next.ensures id in
    let more = more_filled c.requires.ready (c.filled-2.ensures.of_order id) made (c.filled.ensures.of_order id) in (
      read_small c.requires.ready c.account-account.ensures c.instrument-instrument.ensures (search rules)
          (rw (c.account.ensures.0, c.account.ensures.1) at c.balance.ensures),
      rw c.of-filled.ensures (omega (arith, filled_small c.requires.ready)),
    )

pub returns : goal.returns
returns c =
    let id = c.args.id in
    let made = c.detail_after-next.ensures id in
    let more = more_filled c.requires.ready (c.filled-2.ensures.of_order id) made (c.filled.ensures.of_order id) in
    let filled : c.of-filled.result.0 ≡ pos (filled_in c.args.change) = c.of-filled.ensures ∙ ap pos (omega arith) in
    let stored =
    change_worked c.requires.ready c.account-account.ensures c.instrument-instrument.ensures (search rules)
    (rw (c.account.ensures.0, c.account.ensures.1) at c.balance.ensures) (c.keep_order.ensures ∙ kept_there c.requires.ready made)
    c.side.ensures filled c.balance_after-after.ensures c.set_balance.ensures in
    record {
      memory = stored;
      sums =
          rw stored
          (c.recount.ensures id _ _ c.requires.sums
          (change_sums (λ i. search rules) c.requires.ready (c.remaining.ensures.of_order id) made (c.remaining-2.ensures.of_order id)));
    }
