-- An id above the last one has its place at the end, any other among the records.
use Rattle.integers.specs.Basics.{◌∙◌, arith}
use Rattle.memory_layout.proofs.Lengths.{rank_open}
use Rattle.memory_layout.proofs.OpenRecords.{length_records, id_in_records}
use Rattle.memory_layout.proofs.Ranking.{at_other}
use Rattle.memory_layout.proofs.search.RankedRecords.place.Goals as goal

pub returns-then-id_of-id : goal.returns-then-id_of-id
returns-then-id_of-id c =
    let m = c.args.self.now in
    let is = c.records-records.ensures.orders in
    let count = length_records m _ is in
    let read = c.id_of.ensures ∙ id_in_records m _ is _ (omega (arith, count)) in
    let reached = at_other m c.args.id _ _ (omega (arith, count)) read c.records-records.ensures.ascend (omega arith) in
    omega (arith, count, reached, rank_open m c.args.id)
