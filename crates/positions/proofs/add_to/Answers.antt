-- The cell and the contracts are small, so that their sum as signed numbers is the cell's new number.
use Rattle.std.specs.Prelude.{◌+◌, ◌≡◌}
use Rattle.integers.specs.Basics.{◌∙◌, nat_abs, get_or, signed, magnitude_parts, sum_parts}
use Rattle.positions.specs.Gathered.{added}
use Rattle.positions.proofs.add_to.Goals as goal

pub returns : goal.returns
unfolding added
returns c =
    let sum : c.number.result ≡ get_or c.args.cells.now c.args.j 0 + nat_abs c.args.n.0 = c.number.ensures
    ∙ omega (
      signed,
      c.add.ensures,
      c.of.ensures,
      sum_parts c.of.result.0 c.args.n.0,
      magnitude_parts c.args.n.0,
      magnitude_parts c.add.result.0,
    ) in
    rw sum
