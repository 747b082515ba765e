-- A blank that is passed leaves the place behind the blanks where it was.
use Rattle.std.specs.Prelude.{◌-◌, ◌≤◌, ◌≡◌}
use Rattle.integers.specs.Basics.{length}
use Rattle.grammar.specs.Reader.{past_blanks}
use Rattle.grammar.proofs.bytes.behind_blanks.Given as goal

abbrev pub invariant-loop-p : goal.invariant-loop-p
invariant-loop-p l = (l.p ≤ length l.s) × (past_blanks l.s l.at ≡ past_blanks l.s l.p)

abbrev pub decreases-loop-p : goal.decreases-loop-p
decreases-loop-p l = length l.s - l.p
