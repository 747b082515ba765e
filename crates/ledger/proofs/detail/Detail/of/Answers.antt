-- Packed names, filled and remaining are put at their bits: a storable order has each below its bound, so the sum fits 64 bits.
use Rattle.integers.specs.Basics.{arith}
use Rattle.ledger.specs.Orders.{remaining}
use Rattle.ledger.specs.Records.{detail}
use Rattle.ledger.proofs.Packing.{packed_below, detail_below, detail_back}
use Rattle.ledger.proofs.detail.Detail.of.Goals as goal

pub overflow_add-result : goal.overflow_add-result
overflow_add-result c =
    omega (arith, c.pack.ensures, packed_below c.args.o.account c.args.o.instrument c.requires.packable c.args.o.side)

pub overflow_add-result-2 : goal.overflow_add-result-2
unfolding detail remaining
overflow_add-result-2 c =
    omega (arith, c.pack.ensures, detail_below c.args.o c.requires)

pub returns : goal.returns
unfolding detail remaining
returns c = rw c.pack.ensures (detail_back c.args.o c.requires)
