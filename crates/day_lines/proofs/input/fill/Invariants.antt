-- A turn reads at least a byte, and no more than the block has room for.
use Rattle.std.proofs.Common.{◌-◌, ◌≤◌, length}
use Rattle.day_lines.proofs.input.fill.Given as goal

abbrev pub invariant-loop-done : goal.invariant-loop-done
invariant-loop-done g l = l.done ≤ length l.block

abbrev pub decreases-loop-done : goal.decreases-loop-done
decreases-loop-done g l = length l.initial.block - l.done
