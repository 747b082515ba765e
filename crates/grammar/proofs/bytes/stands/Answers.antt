-- Bytes that were compared are the same, eight at once or one by one, so that the others decide.
use Rattle.integers.specs.Basics.{◌∙◌, sym, arith}
use Rattle.words.specs.Fields.{u64_at}
use Rattle.grammar.proofs.Comparing.{all_same, some_other}
use Rattle.grammar.proofs.bytes.stands.Goals as goal

pub returns-then-at : goal.returns-then-at
unfolding u64_at
returns-then-at c =
    sym (some_other _ _ _ (omega arith) 8 _ c.loop-i.invariant (omega arith)
    (λ e. c.if-at.true (c.at.ensures ∙ e ∙ sym c.at-in-loop-i.ensures)))

pub loop-i-preserved : goal.loop-i-preserved
unfolding u64_at
loop-i-preserved c =
    all_same _ _ _ (omega arith) (λ k. (c.type_inv.s k).fits)
    (λ k. (c.type_inv.l k).fits) 8 _ c.loop-i.invariant (omega arith)
    (sym c.at.ensures ∙ c.if-at.false ∙ c.at-in-loop-i.ensures)
