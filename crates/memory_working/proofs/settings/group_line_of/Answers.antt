-- An LCC of −1 means both are −1 in an accepted LIMIT, and the line is unset; else both are limits.
use Rattle.memory_working.proofs.LineFigures.{group_unset, group_set}
use Rattle.memory_working.proofs.settings.group_line_of.Goals as goal

pub returns-then-is_minus_one : goal.returns-then-is_minus_one
returns-then-is_minus_one c = group_unset c.requires c.ranges.lcc c.is_minus_one.ensures c.if-is_minus_one.true

pub returns : goal.returns
returns c = group_set c.requires c.ranges.lcc c.is_minus_one.ensures c.if-is_minus_one.false c.ranges.lvc
