-- Another account, instrument or side counts 0; where all three agree the order counts what remains of it: one law for each case.
use Rattle.integers.specs.Basics.{◌∙◌, sym}
use Rattle.positions.proofs.Counting.{sides_test, counted_other_account, counted_other_instrument, counted_other_side, counted_own}
use Rattle.positions.proofs.counted.Goals as goal
use Rattle.positions.proofs.counted.Goals.{else-o-account-via-then-o-account+then-o-instrument+else-eq}
use Rattle.positions.proofs.counted.Goals.{else-o-account-via-then-o-account+else-o-instrument, else-o-account-via-else-o-account}

pub returns-then-eq : goal.returns-then-eq
returns-then-eq c =
    let side = sym (sides_test _ _) ∙ sym c.eq.ensures ∙ c.if-eq.true in
    c.remaining.ensures ∙ sym (counted_own _ _ _ _ c.if-o-account.true c.if-o-instrument.true side)

pub returns-else-o-account : goal.returns-else-o-account
returns-else-o-account c =
    sym
    (elim c.else-o-account.branch [
      | else-o-account-via-then-o-account+then-o-instrument+else-eq w ↦
          counted_other_side _ _ _ _ (sym (sides_test _ _) ∙ sym w.eq.ensures ∙ w.if-eq.false)
      | else-o-account-via-then-o-account+else-o-instrument w ↦ counted_other_instrument _ _ _ _ w.if-o-instrument.false
      | else-o-account-via-else-o-account w ↦ counted_other_account _ _ _ _ w.if-o-account.false
    ])
