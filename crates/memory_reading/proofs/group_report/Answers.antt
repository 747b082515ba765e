-- The desk is sound, so `group_position`'s bounds hold of its parts; what it gives is the report of the desk's memory.
use Rattle.integers.specs.Basics.{w64, to_z-of_z, arith}
use Rattle.memory_soundness.proofs.Bounded.{group_bounds}
use Rattle.memory_reading.proofs.Reports.{group_told}
use Rattle.memory_reading.proofs.group_report.Goals as goal

pub group_position-at-requires : goal.group_position-at-requires
group_position-at-requires c =
    let held = rw c.desk.view_is at c.desk.invariant.0 in
    rw (
      c.records.ensures.orders,
      c.orders.ensures.same,
      c.roster.ensures,
      c.balances.ensures,
      c.desk.view_is,
    )
    (group_bounds _ held _ c.requires)

pub returns : goal.returns
returns c =
    rw (
      to_z-of_z w64 c.group_position-at.result.long.0 (record { sfits = omega arith }),
      to_z-of_z w64 c.group_position-at.result.short.0 (record { sfits = omega arith }),
    )
    (group_told _ _ (rw c.desk.view_is at c.desk.invariant.0) c.requires _ c.group_position-at.result
    (rw (
      c.records.ensures.orders,
      c.orders.ensures.same,
      c.roster.ensures,
      c.balances.ensures,
      c.desk.view_is,
    )
    at c.group_position-at.ensures))
