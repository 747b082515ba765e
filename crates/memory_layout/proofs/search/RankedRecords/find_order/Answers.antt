-- The order with the id, if one is open, stands just before the first larger id: there the search finds it, or there is none.
use Rattle.integers.specs.Basics.{sym, arith}
use Rattle.std.proofs.lemmas.List.{length-take-le}
use Rattle.memory_layout.proofs.Lengths.{rank_open}
use Rattle.memory_layout.proofs.OpenRecords.{length_records}
use Rattle.memory_layout.proofs.Ranking.{found_at_rank}
use Rattle.memory_layout.proofs.search.RankedRecords.find_order.Goals as goal

pub slice_bounds-find-end : goal.slice_bounds-find-end
slice_bounds-find-end c =
    let m = c.args.self.now in
    sym (length-take-le c.place_among-p.result c.records.result.now
    (omega (arith, c.place_among-p.ensures, rank_open m c.args.id, length_records m _ c.records.ensures.orders)))

pub find-requires : goal.find-requires
find-requires c =
    let m = c.args.self.now in
    let inside = length-take-le c.place_among-p.result c.records.result.now
    (omega (arith, c.place_among-p.ensures, rank_open m c.args.id, length_records m _ c.records.ensures.orders)) in
    omega (arith, inside, c.saturating_sub.ensures)

pub returns : goal.returns
returns c =
    found_at_rank _ _ c.records.ensures.ascend _ _ c.place_among-p.ensures c.saturating_sub.ensures _ _ c.records.ensures.orders
    c.find.ensures
