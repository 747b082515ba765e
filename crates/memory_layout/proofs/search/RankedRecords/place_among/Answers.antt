-- The place is in the first block that does not end with a smaller id, or at its end.
use Rattle.integers.specs.Basics.{arith}
use Rattle.memory_layout.proofs.Lengths.{length_open, rank_open}
use Rattle.memory_layout.proofs.OpenRecords.{length_records}
use Rattle.memory_layout.proofs.Ranking.{rank_from, rank_upto}
use Rattle.memory_layout.proofs.search.RankedRecords.place_among.Goals as goal

pub overflow_mul-from : goal.overflow_mul-from
overflow_mul-from c =
    let count = length_records c.args.self.now _ c.records-n.ensures.orders in
    omega (arith, c.records-n.ensures.few, count, c.blocks_before-from.ensures.0)

pub overflow_add-from : goal.overflow_add-from
overflow_add-from c =
    let count = length_records c.args.self.now _ c.records-n.ensures.orders in
    omega (arith, c.records-n.ensures.few, count, c.blocks_before-from.ensures.0)

pub overflow_add-result : goal.overflow_add-result
overflow_add-result c =
    let m = c.args.self.now in
    let count = length_records m _ c.records-n.ensures.orders in
    omega (arith, c.records-n.ensures.few, count, length_open m, rank_open m c.args.id, c.records_before.ensures)

pub records_before-requires : goal.records_before-requires
records_before-requires c =
    let count = length_records c.args.self.now _ c.records-n.ensures.orders in
    let upto = rank_upto _ _ _ c.records-n.ensures.ascend c.blocks_before-from.ensures in (
      rank_from _ _ _ c.records-n.ensures.ascend c.blocks_before-from.ensures,
      rw (c.min.ensures, count) upto,
      omega (arith, c.min.ensures, count),
    )
