-- Before turn c the groups of the contracts before it are written.
use Rattle.std.specs.Prelude.{◌+◌, ◌-◌, ◌≤◌, ◌≡◌}
use Rattle.memory_layout.specs.Opening.{groups_written}
use Rattle.memory_opening.specs.Questions.{roster_from}
use Rattle.memory_opening.proofs.writing.put_groups.Given as goal

abbrev pub invariant-loop-c : goal.invariant-loop-c
invariant-loop-c l = (l.c ≤ l.c-end + 1) × (l.m ≡ groups_written (roster_from l.roster).group_of l.initial.m (l.c - 1))
