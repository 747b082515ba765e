-- The desk is sound, so `listed_position`'s bounds hold of its parts; what it gives is the report of the desk's memory.
use Rattle.integers.specs.Basics.{w64, to_z-of_z, arith}
use Rattle.memory_soundness.proofs.Bounded.{instrument_bounds}
use Rattle.memory_reading.proofs.Reports.{instrument_told}
use Rattle.memory_reading.proofs.instrument_report.Goals as goal

pub listed_position-at-requires : goal.listed_position-at-requires
listed_position-at-requires c =
    let held = rw c.orders.ensures.same at c.orders.ensures.sound in
    rw (
      c.records.ensures.orders,
      c.orders.ensures.same,
      c.balances.ensures,
      c.desk.view_is,
    )
    (c.records.ensures.few, instrument_bounds _ held _ c.requires.0 _ c.requires.1)

pub returns : goal.returns
returns c =
    rw (
      to_z-of_z w64 c.listed_position-at.result.balance.0 (record { sfits = omega arith }),
      to_z-of_z w64 c.listed_position-at.result.long.0 (record { sfits = omega arith }),
      to_z-of_z w64 c.listed_position-at.result.short.0 (record { sfits = omega arith }),
    )
    (instrument_told _ _ (rw c.orders.ensures.same at c.orders.ensures.sound) c.requires.0 _ c.requires.1 c.listed_position-at.result
    (rw (
      c.records.ensures.orders,
      c.orders.ensures.same,
      c.balances.ensures,
      c.desk.view_is,
    )
    at c.listed_position-at.ensures))
