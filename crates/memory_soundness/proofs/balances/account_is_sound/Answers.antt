-- Where not all balances are small, the answer is, instrument by instrument, that of `instrument_is_sound`.
use Rattle.std.proofs.Common.{rules, tests}
use Rattle.memory_layout.proofs.All.{every_of_all}
use Rattle.memory_soundness.specs.Soundness.{account_sound}
use Rattle.memory_soundness.proofs.balances.account_is_sound.Goals as goal

pub returns-else-balances_are_small : goal.returns-else-balances_are_small
unfolding account_sound
returns-else-balances_are_small c = every_of_all _ _ c.all.ensures.ran (search rules) (λ x b q k. search (rules, tests))
