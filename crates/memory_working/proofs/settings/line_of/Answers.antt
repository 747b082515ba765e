-- −1 throughout and the line is unset; else the figures are its limits.
use Rattle.integers.specs.Basics.{rules}
use Rattle.memory_working.proofs.LineFigures.{line_unset, line_set}
use Rattle.memory_working.proofs.settings.line_of.Goals as goal

pub returns-then-unsets : goal.returns-then-unsets
returns-then-unsets c = line_unset _ c.unsets.ensures c.if-unsets.true

pub returns : goal.returns
returns c = line_set _ c.unsets.ensures c.if-unsets.false (search rules) (search rules) (search rules) (search rules)
