-- The group of each contract is tested, and where all are of the roster, the contract of each instrument.
use Rattle.std.specs.Prelude.{◌≡◌}
use Rattle.std.proofs.Common.{rules, tests}
use Rattle.book.specs.Decoding.{between}
use Rattle.memory_layout.proofs.All.{every_of_all}
use Rattle.memory_layout.specs.Rosters.{every, names_fit}
use Rattle.memory_opening.specs.Questions.{roster_from}
use Rattle.memory_opening.proofs.questions.names_fit.Goals as goal

pub returns-then-all : goal.returns-then-all
unfolding names_fit
returns-then-all c =
    let r = roster_from c.args.roster.now in
    let groups : c.all.result ≡ every r.contracts (λ k. between 1 r.groups (r.group_of k)) =
    every_of_all _ _ c.all.ensures.ran (search rules) (λ x b q k. search (rules, tests)) in
    let contracts : c.all-then-all.result ≡ every r.instruments (λ k. between 1 r.contracts (r.contract_of k)) =
    every_of_all _ _ c.all-then-all.ensures.ran (search rules) (λ x b q k. search (rules, tests)) in
    search (rules, groups, contracts)

pub returns-else-all : goal.returns-else-all
unfolding names_fit
returns-else-all c =
    let r = roster_from c.args.roster.now in
    let groups : c.all.result ≡ every r.contracts (λ k. between 1 r.groups (r.group_of k)) =
    every_of_all _ _ c.all.ensures.ran (search rules) (λ x b q k. search (rules, tests)) in
    search (rules, groups)
