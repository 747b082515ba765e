-- Each order adds what remains of it to its own cell.
use Rattle.std.proofs.Common.{rules}
use Rattle.std.specs.Prelude.{◌+◌, ◌<◌, ◌≡◌}
use Rattle.integers.specs.Basics.{ap, nat_abs, arith, signed}
use Rattle.ledger.specs.Records.{detail_remaining}
use Rattle.memory_layout.proofs.Lengths.{length_open}
use Rattle.memory_layout.proofs.OpenRecords.{length_records, open_order}
use Rattle.memory_soundness.proofs.Gathering.{summed_more, summed_all}
use Rattle.memory_soundness.proofs.OrdersTested.{gathered_small}
use Rattle.memory_soundness.proofs.sums.gather_sums.Goals as goal

pub add_to-requires : goal.add_to-requires
add_to-requires c =
    let w = c.detail_of-w.result.0 in
    let long = length_records c.args.m.now _ c.records-order-items.ensures.orders in
    let few : detail_remaining w < 134217728 = search rules in
    let added : nat_abs c.of.result.0 ≡ detail_remaining w = omega (arith, ap nat_abs c.of.ensures) in (
      omega (arith, c.packed.ensures, c.loop-order.invariant.size),
      omega signed,
      omega (arith, long, c.records-order-items.ensures.few, c.loop-order.invariant.small (65 + c.packed.result), few, added),
    )

pub loop-order-preserved : goal.loop-order-preserved
loop-order-preserved c =
    let w = c.detail_of-w.result.0 in
    let long = length_records c.args.m.now _ c.records-order-items.ensures.orders in
    let added : nat_abs c.of.result.0 ≡ detail_remaining w = omega (arith, ap nat_abs c.of.ensures) in
    summed_more _ _ _ c.loop-order.invariant _ w (omega (arith, long, length_open c.args.m.now))
    (open_order c.args.m.now _ c.records-order-items.ensures.orders _ _ _ (omega (arith, long)) c.detail_of-w.ensures) (search rules) _
    (rw (added, c.packed.ensures) at c.add_to.ensures)

pub returns : goal.returns
returns c =
    let long = length_records c.args.m.now _ c.records-order-items.ensures.orders in
    gathered_small _ _ (omega (arith, long, c.records-order-items.ensures.few)) c.requires.0
    (summed_all _ _ _ c.loop-order.invariant (omega (arith, long, length_open c.args.m.now)))
