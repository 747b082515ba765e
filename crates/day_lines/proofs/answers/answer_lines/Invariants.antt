-- The places that are left end where they did: a place fits 64 bits.
use Rattle.std.proofs.Common.{◌≡◌, ◌+◌, length}
use Rattle.day_lines.proofs.answers.answer_lines.Given as goal

abbrev pub invariant-loop-rest : goal.invariant-loop-rest
invariant-loop-rest g l = l.place + length l.rest ≡ l.before + 1 + length l.answers

abbrev pub decreases-loop-rest : goal.decreases-loop-rest
decreases-loop-rest g l = length l.rest
