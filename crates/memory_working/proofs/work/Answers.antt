-- Each kind's function gets the event by the name that the match gives it; what it did is what `worked` says of the event, and B and V are
-- those of the orders that it leaves.
use Rattle.integers.specs.Basics.{◌∙◌, rules}
use Rattle.memory_working.specs.Working.{worked}
use Rattle.memory_working.proofs.Handing.{ready_as}
use Rattle.memory_working.proofs.Changing.{new_is}
use Rattle.memory_working.proofs.SumsMoved.{setting_sums}
use Rattle.memory_working.proofs.work.Goals as goal

pub returns-in-Set-clause-sums : goal.returns-in-Set-clause-sums
returns-in-Set-clause-sums c =
    setting_sums (λ i. search rules) c.in-Set.is c.requires.ready c.work_setting.ensures c.requires.sums

pub enter-requires : goal.enter-requires
enter-requires c = record {
  ready = ready_as (c.in-New.is ∙ new_is (ready_as c.in-New.is c.requires.ready)) c.requires.ready;
  sums = c.requires.sums;
}

pub returns-in-New-clause-memory : goal.returns-in-New-clause-memory
returns-in-New-clause-memory c =
    rw (c.in-New.is ∙ new_is (ready_as c.in-New.is c.requires.ready)) c.enter.ensures.memory

pub returns-in-Junk-clause-memory : goal.returns-in-Junk-clause-memory
unfolding worked
returns-in-Junk-clause-memory c = rw c.in-Junk.is
