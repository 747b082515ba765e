-- The contract's line stands for the entry and goes through one step; that it is under its own group is joined to what was right.
use Rattle.std.specs.Prelude.{◌&&◌}
use Rattle.integers.specs.Basics.{rules, ap, ◌∙◌}
use Rattle.book.specs.declared.LimitLine.TheVariants.{Default}
use Rattle.memory_loading.specs.Loading.{in_place}
use Rattle.memory_loading.specs.declared.progress.Progress.{Progress}
use Rattle.memory_loading.proofs.Entered.{contract_stands, stands_as, passed_entry}
use Rattle.memory_loading.proofs.progress.Contracts.enter.Goals as goal

pub returns : goal.returns
unfolding in_place
returns c =
    passed_entry _ (stands_as (contract_stands _ _ _ c.args.tag.now.limits) (ap
    (Default c.args.tag.now.contract) c.figures_of.ensures) c.is_some.ensures)
    (search rules) c.requires (rw c.and-placed.ensures at c.step-first.ensures.answer) c.step-first.ensures.memory
    (ap (λ (p : Progress). p.right) c.and-placed.ensures ∙ ap (λ b. c.args.before.right && b) (rw c.of.ensures at c.in_place.ensures))
