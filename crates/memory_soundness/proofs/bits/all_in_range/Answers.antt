-- Every number is at most the bits of all, so where that is at most `largest` each is: a word's two figures are two of them.
-- A no says nothing.
use Rattle.std.specs.Prelude.{◌+◌, ◌*◌, ◌≡◌}
use Rattle.integers.specs.Basics.{arith, leb-true}
use Rattle.words.proofs.HalfWords.{lower_field, upper_field}
use Rattle.limits.specs.InBytes.{group_line_at}
use Rattle.memory_soundness.proofs.bits.all_in_range.Goals as goal

pub returns : goal.returns
unfolding group_line_at
returns c e j l =
    let first : j * 2 * 4 ≡ j * 8 = omega arith in
    let second : (j * 2 + 1) * 4 ≡ j * 8 + 4 = omega arith in
    let most = leb-true c.bits_of_all.result _ e in
    let lower = rw first at (c.bits_of_all.ensures (j * 2) (omega arith)) in
    let upper = rw second at (c.bits_of_all.ensures (j * 2 + 1) (omega arith)) in
    record {
      lcc = rw (← lower_field c.args.row.now j (λ i. (c.type_inv.row i).fits)) (omega arith);
      lvc = rw (← upper_field c.args.row.now j (λ i. (c.type_inv.row i).fits)) (omega arith);
    }
