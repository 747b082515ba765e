-- The record at the place is the order's.
use Rattle.memory_layout.proofs.OpenRecords.{detail_in_region}
use Rattle.memory_layout.proofs.orders.OrderRecords.detail_at.Goals as goal

pub returns : goal.returns
returns c = detail_in_region c.args.self.now _ c.region.ensures.records c.args.p _ c.requires c.detail_of.ensures
