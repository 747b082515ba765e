-- 17 is answered by the three tests.
use Rattle.integers.specs.Basics.{arith}
use Rattle.limits.proofs.InOrder.{existence}
use Rattle.limits.proofs.questions.limits_exist.Goals as goal

pub returns-then-default : goal.returns-then-default
returns-then-default c r ls o sets = grind (arith, existence r ls o _ _ _ sets)

pub returns-else-of_group : goal.returns-else-of_group
returns-else-of_group c r ls o sets = grind (arith, existence r ls o _ _ _ sets)
