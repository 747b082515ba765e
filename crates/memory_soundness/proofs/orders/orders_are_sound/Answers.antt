-- What the pass, the totals and the marks tell together is that the ids ascend and each order is sound.
use Rattle.std.proofs.Common.{rules, tests}
use Rattle.memory_soundness.proofs.OrdersTested.{orders_told}
use Rattle.memory_soundness.proofs.orders.orders_are_sound.Goals as goal

pub returns-in-None : goal.returns-in-None
returns-in-None c = orders_told _ _ (search (rules, tests))

pub returns-then-totals_fit : goal.returns-then-totals_fit
returns-then-totals_fit c = orders_told _ _ (search (rules, tests))

pub returns-else-totals_fit : goal.returns-else-totals_fit
returns-else-totals_fit c = orders_told _ _ (search (rules, tests))
