-- An instrument outside the group adds nothing; one inside adds its part on either side (`part_inside`), read by the roster's words for
-- contract, group and weight. Weights and positions are bounded, so the sums fit 64 bits.
use Rattle.std.specs.Prelude.{◌+◌, ◌≤◌, ◌≡◌, ◌+ℤ◌}
use Rattle.integers.specs.Basics.{◌∙◌, sym, ap, ℤ, nat_abs, w64, to_z-of_z, arith}
use Rattle.ledger.specs.Positions.{long, short, Way, group_part}
use Rattle.ledger.specs.Records.{balances_in, roster_in}
use Rattle.positions.specs.Gathered.{part_by_cells, on_way}
use Rattle.ledger.proofs.Fits.{again}
use Rattle.positions.proofs.Weighing.{part_outside, part_inside, instrument_small, part_of_small, on_way_sum}
use Rattle.positions.proofs.Account.with_part.Goals as goal
use Rattle.positions.proofs.Account.with_part.Goals.{After-instrument-at}

module _ (c : After-instrument-at) where
  weight : again c.weight_of-weight.result ≡ (roster_in c.args.self.now.roster.now).weight c.args.i
  weight = to_z-of_z w64 c.weight_of-weight.result (record { sfits = c.weight_of-weight.type_inv }) ∙ c.weight_of-weight.ensures

  -- the weight and the instrument's positions are small
  small : (nat_abs (again c.weight_of-weight.result) ≤ 1000000)
      × (nat_abs c.instrument-at.result.long.0 ≤ 200000000000)
      × (nat_abs c.instrument-at.result.short.0 ≤ 200000000000)
  small =
      let at = c.args.self.now in
      let by = instrument_small at.cells.now at.balances.now at.roster.now at.bounds c.args.i c.requires.0 in (
        rw weight (at.bounds.roster_small.weight c.args.i c.requires.0),
        rw (c.instrument-at.ensures long) (by long),
        rw (c.instrument-at.ensures short) (by short),
      )

  -- the instrument's part in the group's position
  its_part : Way → ℤ
  its_part =
      part_by_cells c.args.self.now.cells.now (balances_in c.args.self.now.balances.now) (roster_in c.args.self.now.roster.now) c.args.group
      c.args.i

  -- what `group_part` finds of a side is that part, and with the sum it fits
  module _ (w : Way) (z : ℤ)
      (found : z ≡ group_part w (again c.weight_of-weight.result)
      (λ v. on_way v c.instrument-at.result.long.0 c.instrument-at.result.short.0)) where
    part : z ≡ its_part w
    unfolding its_part
    part =
        part_inside _ _ _ _ _ w (sym c.group_of_instrument.ensures ∙ c.if-group_of_instrument-group.false) _ _ _ _ weight
        c.instrument-at.ensures found

    fits : nat_abs (on_way w c.args.sum.long.0 c.args.sum.short.0) + nat_abs z ≤ 9000000000000000000
    unfolding its_part
    fits =
        let at = c.args.self.now in
        let most = part_of_small at.cells.now at.balances.now at.roster.now at.bounds c.args.i c.requires.0 c.args.group w in
        omega (arith, c.requires.1 w, ap nat_abs part, most)

pub returns : goal.returns
unfolding its_part
returns c =
    let by = (goal.at.returns c).After-instrument-at in
    on_way_sum _ _ c.args.sum.long.0 c.args.sum.short.0 (its_part by)
    (c.add.ensures ∙ ap (λ (z : ℤ). c.args.sum.long.0 +ℤ z) (part by long _ c.group_part.ensures))
    (c.add-2.ensures ∙ ap (λ (z : ℤ). c.args.sum.short.0 +ℤ z) (part by short _ c.group_part-2.ensures))

pub returns-then-group_of_instrument-group : goal.returns-then-group_of_instrument-group
returns-then-group_of_instrument-group c w =
    part_outside _ _ _ _ _ w (λ e. c.if-group_of_instrument-group.true (c.group_of_instrument.ensures ∙ e)) _

pub group_part-requires : goal.group_part-requires
group_part-requires c = small (goal.at.group_part-requires c).After-instrument-at

pub group_part-requires-2 : goal.group_part-requires-2
group_part-requires-2 c = small (goal.at.group_part-requires-2 c).After-instrument-at

pub add-requires : goal.add-requires
add-requires c = fits (goal.at.add-requires c).After-instrument-at long _ c.group_part.ensures

pub add-requires-2 : goal.add-requires-2
add-requires-2 c = fits (goal.at.add-requires-2 c).After-instrument-at short _ c.group_part-2.ensures
