-- The records in use are the first of the region.
use Rattle.std.specs.Prelude.{◌≡◌}
use Rattle.integers.specs.Basics.{sym, length, arith}
use Rattle.std.proofs.lemmas.List.{length-take-le}
use Rattle.memory_layout.specs.Stores.{Records}
use Rattle.memory_layout.specs.View.{open_orders}
use Rattle.memory_layout.proofs.Lengths.{length_open}
use Rattle.memory_layout.proofs.OpenRecords.{records_in_use}
use Rattle.memory_layout.proofs.orders.OrderRecords.records.Goals as goal

pub slice_bounds-result-end : goal.slice_bounds-result-end
slice_bounds-result-end c =
    let held : Records c.args.self.now = rw c.self.view_is at c.self.invariant in
    let count : c.count.result ≡ length (open_orders c.args.self.now) = rw c.self.view_is at c.count.ensures in
    sym (length-take-le c.count.result c.region.result.now
    (omega (arith, c.region.ensures.length, count, length_open c.args.self.now, held.count)))

pub returns-clause-orders : goal.returns-clause-orders
returns-clause-orders c =
    let count : c.count.result ≡ length (open_orders c.args.self.now) = rw c.self.view_is at c.count.ensures in
    records_in_use c.args.self.now c.region.result.now c.region.ensures.records c.count.result count (rw c.self.view_is at c.self.invariant)
