-- A turn writes the group of its contract.
use Rattle.integers.specs.Basics.{◌∙◌, sym, ap, arith}
use Rattle.memory_layout.specs.Opening.{store_group_of}
use Rattle.memory_layout.proofs.Written.{written_none, written_turn}
use Rattle.memory_opening.proofs.writing.put_groups.Goals as goal

pub loop-c-init : goal.loop-c-init
loop-c-init c = (omega arith, sym (written_none _ _))

pub loop-c-preserved : goal.loop-c-preserved
loop-c-preserved c = (
  omega arith,
  written_turn _ _ c.loop-c.invariant.1 (omega arith)
      (c.set_group_of.ensures ∙ ap (store_group_of _ _) (c.from.ensures ∙ c.group_of.ensures)) (omega arith),
)

pub returns-2 : goal.returns-2
returns-2 c =
    written_turn _ _ c.loop-c.invariant.1 (omega arith)
    (c.set_group_of.ensures ∙ ap (store_group_of _ _) (c.from.ensures ∙ c.group_of.ensures)) (omega arith)
