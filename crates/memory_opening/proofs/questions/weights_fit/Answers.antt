-- The weight of each instrument is tested.
use Rattle.std.proofs.Common.{rules, tests}
use Rattle.memory_layout.proofs.All.{every_of_all}
use Rattle.memory_layout.specs.Rosters.{weights_fit}
use Rattle.memory_opening.proofs.questions.weights_fit.Goals as goal

pub returns : goal.returns
unfolding weights_fit
returns c = every_of_all _ _ c.all.ensures.ran (search rules) (λ x b q k. search (rules, tests))
