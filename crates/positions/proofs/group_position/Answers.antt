-- The cells gathered hold B and V of the account, so that the weighed sum by them is PCC and PVC.
use Rattle.integers.specs.Basics.{refl}
use Rattle.ledger.specs.Positions.{long, short}
use Rattle.positions.proofs.Gathering.{empty_at}
use Rattle.positions.proofs.Weighing.{sum_potential}
use Rattle.positions.proofs.group_position.Goals as goal

pub returns : goal.returns
returns c =
    record {
      its_long = sum_potential _ _ _ _ long _ _ c.gather.ensures.1 c.requires.roster_small.instruments _ (c.group.ensures long);
      its_short = sum_potential _ _ _ _ short _ _ c.gather.ensures.1 c.requires.roster_small.instruments _ (c.group.ensures short);
    }

pub gather-requires : goal.gather-requires
gather-requires c = (c.requires.orders_small, refl, empty_at 65)
