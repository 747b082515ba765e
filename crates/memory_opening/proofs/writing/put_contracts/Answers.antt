-- A turn writes the contract of its instrument.
use Rattle.integers.specs.Basics.{◌∙◌, sym, ap, arith}
use Rattle.memory_layout.specs.Opening.{store_contract_of}
use Rattle.memory_layout.proofs.Written.{written_none, written_turn}
use Rattle.memory_opening.proofs.writing.put_contracts.Goals as goal

pub loop-i-init : goal.loop-i-init
loop-i-init c = (omega arith, sym (written_none _ _))

pub loop-i-preserved : goal.loop-i-preserved
loop-i-preserved c = (
  omega arith,
  written_turn _ _ c.loop-i.invariant.1 (omega arith)
      (c.set_contract_of.ensures ∙ ap (store_contract_of _ _) (c.from.ensures ∙ c.contract_of.ensures)) (omega arith),
)

pub returns-2 : goal.returns-2
returns-2 c =
    written_turn _ _ c.loop-i.invariant.1 (omega arith)
    (c.set_contract_of.ensures ∙ ap (store_contract_of _ _) (c.from.ensures ∙ c.contract_of.ensures)) (omega arith)
