-- The group's line stands for the entry and goes through one step; a group stands in place anywhere.
use Rattle.integers.specs.Basics.{rules}
use Rattle.memory_loading.specs.Loading.{in_place}
use Rattle.memory_loading.proofs.Passes.{and_true}
use Rattle.memory_loading.proofs.Entered.{group_stands, stands_as, passed_entry}
use Rattle.memory_loading.proofs.progress.Groups.enter.Goals as goal

pub returns : goal.returns
unfolding in_place
returns c =
    passed_entry _ (stands_as (group_stands _ _ _) c.group_line-line.ensures c.is_some.ensures) (search rules)
    c.requires c.step-first.ensures.answer c.step-first.ensures.memory (and_true _)
