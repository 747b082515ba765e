-- Bytes that were compared are the same, eight at once or one by one, so that the others decide.
use Rattle.std.specs.Prelude.{◌-◌}
use Rattle.integers.specs.Basics.{length}
use Rattle.grammar.proofs.Comparing.{Compared}
use Rattle.grammar.proofs.bytes.stands.Given as goal

abbrev pub invariant-loop-i : goal.invariant-loop-i
invariant-loop-i l = Compared l.s l.l l.at l.i

abbrev pub decreases-loop-i : goal.decreases-loop-i
decreases-loop-i l = length l.l - l.i

abbrev pub invariant-loop-i-2 : goal.invariant-loop-i-2
invariant-loop-i-2 l = Compared l.s l.l l.at l.i

abbrev pub decreases-loop-i-2 : goal.decreases-loop-i-2
decreases-loop-i-2 l = length l.l - l.i
