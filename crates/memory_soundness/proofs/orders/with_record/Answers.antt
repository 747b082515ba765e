-- The id and the detail are those of the record's order.
use Rattle.integers.specs.Basics.{arith}
use Rattle.memory_soundness.proofs.Passing.{goes_on}
use Rattle.memory_soundness.proofs.orders.with_record.Goals as goal

pub returns : goal.returns
returns c =
    goes_on _ _ _ _ _ c.id_of-id.ensures c.detail_of-w.ensures (omega arith)
    (omega (arith, c.if-remaining-eq0.false, c.remaining.ensures.in_detail)) _
    (c.with_bits_of.ensures.own, c.with_bits_of.ensures.of_other)
