-- The orders of the records passed are gathered.
use Rattle.memory_layout.specs.View.{open_orders}
use Rattle.memory_soundness.proofs.Gathering.{Summed}
use Rattle.memory_soundness.proofs.sums.gather_sums.Given as goal

abbrev pub invariant-loop-order : goal.invariant-loop-order
invariant-loop-order l = Summed (open_orders l.m) l.cells l.order-index
