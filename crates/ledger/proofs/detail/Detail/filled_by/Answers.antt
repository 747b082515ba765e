-- What is filled and what remains move against each other in their bits, and no bit below them changes.
use Rattle.integers.specs.Basics.{arith}
use Rattle.ledger.specs.Orders.{filled_by}
use Rattle.ledger.specs.Records.{order_of}
use Rattle.ledger.proofs.Details.{moved}
use Rattle.ledger.proofs.detail.Detail.filled_by.Goals as goal

pub returns : goal.returns
unfolding filled_by order_of
returns c id = moved id _ _ _ _ (omega arith) (omega arith) (omega arith) (omega arith)
