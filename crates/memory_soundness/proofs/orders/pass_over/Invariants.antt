-- After t turns 2 t records are passed.
use Rattle.std.specs.Prelude.{◌*◌}
use Rattle.memory_layout.specs.View.{records_of}
use Rattle.memory_soundness.specs.Each.{Passed}
use Rattle.memory_soundness.proofs.orders.pass_over.Given as goal

abbrev pub invariant-loop-first : goal.invariant-loop-first
invariant-loop-first l = Passed (records_of l.m) (l.first-index * 2) l.passed.last l.passed.details.0
