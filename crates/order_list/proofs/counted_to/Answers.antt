-- The chain yields what each order counts for, so that its sum is what they count for together.
use Rattle.std.proofs.Common.{rules, tests}
use Rattle.std.proofs.lemmas.Iterator.{YieldsList-from_slice, YieldsList-from_map}
use Rattle.std.proofs.lemmas.Iterator.Consumers.{YieldsList-at, sum_by_from_yields_List, fits_by_from_yields_list}
use Rattle.integers.specs.Basics.{◌∙◌, arith}
use Rattle.ledger.specs.Derivatives.{counted}
use Rattle.order_list.proofs.Sums.{counted_whole}
use Rattle.order_list.proofs.counted_to.Goals as goal

pub sum-requires-clause-fits : goal.sum-requires-clause-fits
sum-requires-clause-fits c =
    let a = c.args in
    let sum = counted_whole a.orders.now a.side a.account a.instrument in
    fits_by_from_yields_list _ _ c.map.result _
    (YieldsList-from_map _ (λ o. counted o a.side a.account a.instrument)
    (YieldsList-at c.map.ensures.source (YieldsList-from_slice a.orders.now cc)) c.map.ensures.closure
    (λ o r q k. search (rules, tests)))
    (omega (arith, sum, c.requires))

pub returns : goal.returns
returns c =
    let a = c.args in
    let sum = sum_by_from_yields_List _ _ c.map.result _ c.sum.ensures.ran
    (YieldsList-from_map _ (λ o. counted o a.side a.account a.instrument)
    (YieldsList-at c.map.ensures.source (YieldsList-from_slice a.orders.now cc)) c.map.ensures.closure
    (λ o r q k. search (rules, tests)))
    ∙ counted_whole a.orders.now a.side a.account a.instrument in
    omega (arith, sum)
