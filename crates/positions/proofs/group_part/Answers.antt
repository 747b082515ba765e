-- A weight below 0 takes the other side's position times its magnitude (`part_other`), any other its own side's (`part_own`).
use Rattle.std.specs.Prelude.{◌≤ℤ◌, ◌<ℤ◌}
use Rattle.integers.specs.Basics.{◌∙◌, sym, pos, arith, signed}
use Rattle.ledger.proofs.Fits.{small_again, negation_again}
use Rattle.positions.proofs.Weighing.{part_own, part_other}
use Rattle.positions.proofs.group_part.Goals as goal

pub returns-then-weight-lt0 : goal.returns-then-weight-lt0
returns-then-weight-lt0 c =
    let e = small_again c.args.weight (omega arith) in
    let h : c.args.weight <ℤ pos 0 = omega (signed, e) in
    c.mul.ensures
    ∙ rw (negation_again c.args.weight (omega arith), c.on_side.ensures, c.opposite.ensures) (sym (part_other _ c.args.weight _ h))

pub returns-else-weight-lt0 : goal.returns-else-weight-lt0
returns-else-weight-lt0 c =
    let e = small_again c.args.weight (omega arith) in
    let h : pos 0 ≤ℤ c.args.weight = omega (signed, e) in
    c.mul-else-weight-lt0.ensures ∙ rw (e, c.on_side-else-weight-lt0.ensures) (sym (part_own _ c.args.weight _ h))
