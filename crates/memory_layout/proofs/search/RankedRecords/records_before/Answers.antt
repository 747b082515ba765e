-- The records whose id is not larger are counted: they are those up to the place (`records_counted`).
use Rattle.std.specs.Prelude.{◌-◌}
use Rattle.std.proofs.Common.{rules, tests}
use Rattle.std.proofs.lemmas.List.{length-take}
use Rattle.std.proofs.lemmas.Iterator.{YieldsList-from_slice, YieldsList-from_map}
use Rattle.std.proofs.lemmas.Iterator.Adapters.{fits_from_length, at_most_from_yields_List}
use Rattle.std.proofs.lemmas.Iterator.Consumers.{YieldsList-at, sum_by_from_yields_List}
use Rattle.integers.specs.Basics.{cond, leb, take, drop, arith}
use Rattle.ledger.specs.Records.{id_at}
use Rattle.memory_layout.proofs.OpenRecords.{length_records}
use Rattle.memory_layout.proofs.Ranking.{records_counted}
use Rattle.memory_layout.proofs.search.RankedRecords.records_before.Goals as goal

pub offset_bounds-records-from : goal.offset_bounds-records-from
offset_bounds-records-from c =
    let long = length_records c.args.self.now _ c.records.ensures.orders in
    omega (arith, c.records.ensures.few, long, c.requires.0, c.requires.1, c.requires.2)

pub slice_bounds-iter-end : goal.slice_bounds-iter-end
slice_bounds-iter-end c =
    let long = length_records c.args.self.now _ c.records.ensures.orders in
    omega (arith, long, c.requires.2)

pub sum-requires-clause-fits : goal.sum-requires-clause-fits
sum-requires-clause-fits c =
    let long = length_records c.args.self.now _ c.records.ensures.orders in
    let part = take (c.args.to - c.args.from) (drop c.args.from c.records.result.now) in
    fits_from_length _ _ 256 _
    (at_most_from_yields_List (YieldsList-at c.map.ensures.source (YieldsList-from_slice part cc))
    (omega (
      arith,
      length-take (c.args.to - c.args.from) (drop c.args.from c.records.result.now),
      c.records.ensures.few,
      long,
      c.requires.2,
    )))
    c.map.ensures.closure (omega arith) (λ x r q k. search (rules, tests))

pub returns : goal.returns
returns c =
    let part = take (c.args.to - c.args.from) (drop c.args.from c.records.result.now) in
    records_counted c.args.self.now c.args.id c.records.ensures.ascend c.records.result.now c.records.ensures.orders c.args.from c.args.to
    c.sum.result
    c.requires.0 c.requires.1 c.requires.2
    (sum_by_from_yields_List (λ r. cond (leb (id_at r 0) c.args.id) 1 0) _ c.map.result _ c.sum.ensures.ran
    (YieldsList-from_map _ (λ r. cond (leb (id_at r 0) c.args.id) 1 0)
    (YieldsList-at c.map.ensures.source (YieldsList-from_slice part cc)) c.map.ensures.closure
    (λ x r q k. search (rules, tests))))
