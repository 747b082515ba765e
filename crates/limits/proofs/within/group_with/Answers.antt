-- What the weighed cells give on the side, and the rise times the weight's magnitude, are small.
use Rattle.std.specs.Prelude.{◌≡◌}
use Rattle.integers.specs.Basics.{◌∙◌, ap, ℤ, pos, nat_abs, arith}
use Rattle.ledger.specs.Positions.{way_of}
use Rattle.ledger.proofs.Fits.{again, small_again}
use Rattle.limits.proofs.Room.{group_room, rise_room}
use Rattle.limits.proofs.within.group_with.Goals as goal
use Rattle.limits.proofs.within.group_with.Goals.{After-abs}

magnitude : (c : After-abs) → again c.abs.result ≡ pos (nat_abs c.args.weight)
magnitude c =
    let e : c.abs.result ≡ pos (nat_abs c.args.weight) = c.abs.ensures.value ∙ ap (λ (z : ℤ). pos (nat_abs z))
    (small_again c.args.weight (omega (arith, c.requires.1))) in
    small_again c.abs.result (omega (arith, ap nat_abs e, c.requires.1)) ∙ e

pub add-requires : goal.add-requires
add-requires c =
    rw (c.on_side.ensures, c.group-before.ensures (way_of c.args.to), c.mul.ensures, magnitude (goal.at.add-requires c).After-abs)
    (omega (
      arith,
      group_room _ _ _ c.args.account.now.bounds c.args.group (way_of c.args.to),
      rise_room (nat_abs c.args.weight) c.args.added.0 c.requires.1 c.requires.0,
    ))
