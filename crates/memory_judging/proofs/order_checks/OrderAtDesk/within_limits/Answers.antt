-- Where no cells are kept, the row is gathered from the records onto zeros.
use Rattle.integers.specs.Basics.{refl}
use Rattle.positions.proofs.Gathering.{empty_at}
use Rattle.memory_soundness.proofs.Bounded.{gather_bounds}
use Rattle.memory_judging.proofs.order_checks.OrderAtDesk.within_limits.Goals as goal

pub gather-requires : goal.gather-requires
gather-requires c =
    let held = rw c.desk.view_is at c.desk.invariant.0 in (
      rw (c.records.ensures.orders, c.orders.ensures.same) (gather_bounds _ held _ c.args.self.now.asked.on.account),
      refl,
      empty_at 65,
    )
