-- The blocks that end with a smaller id are counted: they are the first ones (`blocks_counted`).
use Rattle.std.proofs.Common.{rules, tests}
use Rattle.std.proofs.lemmas.Iterator.{YieldsList-from_slice, YieldsList-from_map}
use Rattle.std.proofs.lemmas.Iterator.Adapters.{fits_from_length, at_most_from_yields_List}
use Rattle.std.proofs.lemmas.Iterator.Consumers.{YieldsList-at, sum_by_from_yields_List}
use Rattle.integers.specs.Basics.{cond, ltb, [], get_or, arith}
use Rattle.ledger.specs.Records.{id_at}
use Rattle.memory_layout.proofs.OpenRecords.{length_records}
use Rattle.memory_layout.proofs.Ranking.{blocks_counted}
use Rattle.memory_layout.proofs.search.RankedRecords.blocks_before.Goals as goal

pub sum-requires-clause-fits : goal.sum-requires-clause-fits
sum-requires-clause-fits c =
    let long = length_records c.args.self.now _ c.records.ensures.orders in
    fits_from_length _ _ 256 _
    (at_most_from_yields_List (YieldsList-at c.map.ensures.source (YieldsList-from_slice c.as_chunks.result.0.now cc))
    (omega (arith, long, c.as_chunks.ensures.front_len, c.records.ensures.few)))
    c.map.ensures.closure (omega arith) (λ x r q k. search (rules, tests))

pub returns : goal.returns
returns c =
    blocks_counted c.args.self.now c.args.id c.records.ensures.ascend c.records.result.now c.records.ensures.orders c.as_chunks.result.0.now
    c.as_chunks.ensures.front c.sum.result
    (sum_by_from_yields_List (λ b. cond (ltb (id_at (get_or b 15 []) 0) c.args.id) 1 0) _ c.map.result _ c.sum.ensures.ran
    (YieldsList-from_map _ (λ b. cond (ltb (id_at (get_or b 15 []) 0) c.args.id) 1 0)
    (YieldsList-at c.map.ensures.source (YieldsList-from_slice c.as_chunks.result.0.now cc)) c.map.ensures.closure
    (λ x r q k. search (rules, tests))))
