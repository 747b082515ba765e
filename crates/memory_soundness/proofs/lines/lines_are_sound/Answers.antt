-- Account by account, the answer is that of `account_lines_are_sound`.
use Rattle.std.proofs.Common.{rules, tests}
use Rattle.memory_soundness.specs.Soundness.{lines_sound}
use Rattle.memory_layout.proofs.All.{every_of_all}
use Rattle.memory_soundness.proofs.lines.lines_are_sound.Goals as goal

pub returns : goal.returns
unfolding lines_sound
returns c = every_of_all _ _ c.all.ensures.ran (search rules) (λ x b q k. search (rules, tests))
