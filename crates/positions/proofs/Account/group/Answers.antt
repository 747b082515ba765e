-- The sum of the parts of the instruments that are passed, from none on; with all of them it is the group's position.
use Rattle.std.specs.Prelude.{◌-◌, ◌≡◌}
use Rattle.integers.specs.Basics.{◌∙◌, arith}
use Rattle.ledger.specs.Records.{roster_in}
use Rattle.positions.proofs.Weighing.{sum_none, sum_more, sum_small}
use Rattle.positions.proofs.Account.group.Goals as goal

pub loop-i-init : goal.loop-i-init
loop-i-init c = (omega arith, λ w. rw (c.none.ensures, c.none-2.ensures) (sum_none _ _ _ _ w))

pub with_part-sum-requires : goal.with_part-sum-requires
with_part-sum-requires c = (
  (omega arith, omega arith),
  λ w. rw (c.loop-i.invariant.1 w) (sum_small _ _ _ _ w (c.loop-i.i - 1) (omega (arith, c.args.self.now.bounds.roster_small.instruments))
      (λ i h. c.args.self.now.bounds.roster_small.weight i (omega arith))
      (λ i h. c.args.self.now.bounds.balances_small.balance i (omega arith)) c.args.self.now.bounds.unfilled),
)

pub loop-i-preserved : goal.loop-i-preserved
loop-i-preserved c =
    (omega arith, λ w. sum_more _ _ _ _ w c.loop-i.i _ (omega arith) (omega arith) _ _ (c.loop-i.invariant.1 w) (c.with_part-sum.ensures w))

pub returns : goal.returns
returns c w =
    let all : c.loop-i.i - 1 ≡ (roster_in c.args.self.now.roster.now).instruments = omega arith in
    c.loop-i.invariant.1 w ∙ rw all

pub returns-2 : goal.returns-2
returns-2 c w = sum_more _ _ _ _ w c.loop-i.i _ (omega arith) (omega arith) _ _ (c.loop-i.invariant.1 w) (c.with_part-sum.ensures w)
