-- A turn loads the order of the place's record.
use Rattle.std.proofs.Common.{sym}
use Rattle.order_list.proofs.Loading.{loaded_none, loaded_next}
use Rattle.order_list.proofs.load_into.Goals as goal

pub loop-p-init : goal.loop-p-init
loop-p-init c = sym (loaded_none c.args.orders.now c.args.records.now)

pub loop-p-preserved : goal.loop-p-preserved
loop-p-preserved c = rw (c.loop-p.invariant, c.order_of.ensures) (loaded_next c.args.orders.now c.args.records.now c.loop-p.p)
