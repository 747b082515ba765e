-- The bits below what remains are kept, and the new total less what is filled is put above them.
use Rattle.integers.specs.Basics.{refl, arith}
use Rattle.ledger.specs.Orders.{replaced_total}
use Rattle.ledger.specs.Records.{order_of}
use Rattle.ledger.proofs.Details.{below_remaining, moved}
use Rattle.ledger.proofs.detail.Detail.replaced_total.Goals as goal

pub returns : goal.returns
unfolding replaced_total order_of
returns c id =
    let low = below_remaining c.args.self.0 in
    rw (c.filled.ensures.in_detail, low) (moved id _ _ _ _ (omega arith) (omega arith) (omega arith) refl)
