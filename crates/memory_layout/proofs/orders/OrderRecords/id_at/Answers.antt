-- The record at the place is the order's.
use Rattle.std.proofs.Common.{◌∙◌}
use Rattle.memory_layout.proofs.OpenRecords.{id_in_region}
use Rattle.memory_layout.proofs.orders.OrderRecords.id_at.Goals as goal

pub returns : goal.returns
returns c = c.id_of.ensures ∙ id_in_region c.args.self.now _ c.region.ensures.records c.args.p c.requires
