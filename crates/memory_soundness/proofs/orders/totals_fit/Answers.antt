-- No total exceeds filled plus remaining of the details' bits taken together; where that does not tell, each record is asked.
use Rattle.std.proofs.Common.{rules, tests}
use Rattle.memory_soundness.specs.Each.{TotalFits}
use Rattle.memory_soundness.proofs.EachRecord.{decides_each}
use Rattle.memory_soundness.proofs.orders.totals_fit.Goals as goal

pub returns : goal.returns
returns c =
    decides_each c.args.m.now c.records.result.now c.records.ensures.orders (TotalFits) c.all.ensures.ran (cc)
    (λ x b q k. search (rules, tests))
