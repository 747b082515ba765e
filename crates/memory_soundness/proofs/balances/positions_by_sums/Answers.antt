-- Account by account, the answer is that of `account_is_sound`.
use Rattle.std.proofs.Common.{rules, tests, refl}
use Rattle.memory_layout.proofs.All.{every_of_all}
use Rattle.memory_soundness.specs.Soundness.{positions_sound}
use Rattle.memory_soundness.proofs.Gathering.{empty_cells}
use Rattle.memory_soundness.proofs.balances.positions_by_sums.Goals as goal

pub gather_sums-requires : goal.gather_sums-requires
gather_sums-requires c = (rw c.orders.ensures c.requires, empty_cells 1089 refl)

pub returns : goal.returns
unfolding positions_sound
returns c = every_of_all _ _ c.all.ensures.ran (search rules) (λ x b q k. search (rules, tests))
