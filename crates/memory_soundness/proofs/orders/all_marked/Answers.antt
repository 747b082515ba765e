-- A yes of the details is one for every record within them; else each record is asked.
use Rattle.std.proofs.Common.{rules, tests}
use Rattle.memory_soundness.specs.Each.{Marked}
use Rattle.memory_soundness.proofs.EachRecord.{decides_each}
use Rattle.memory_soundness.proofs.orders.all_marked.Goals as goal

pub returns : goal.returns
returns c =
    decides_each c.args.m.now c.records.result.now c.records.ensures.orders (Marked c.args.m.now) c.all.ensures.ran (cc)
    (λ x b q k. search (rules, tests))
