-- Before turn i the weights of the instruments before it are written.
use Rattle.std.specs.Prelude.{◌+◌, ◌-◌, ◌≤◌, ◌≡◌}
use Rattle.memory_layout.specs.Opening.{weights_written}
use Rattle.memory_opening.specs.Questions.{roster_from}
use Rattle.memory_opening.proofs.writing.put_weights.Given as goal

abbrev pub invariant-loop-i : goal.invariant-loop-i
invariant-loop-i l = (l.i ≤ l.i-end + 1) × (l.m ≡ weights_written (roster_from l.roster).weight l.initial.m (l.i - 1))
