-- The joined detail is at least either in each figure: the bits of both are in it (`joined_before`, `joined_here`).
use Rattle.ledger.proofs.Details.{joined_before, joined_here}
use Rattle.ledger.proofs.detail.Detail.with_bits_of.Goals as goal

pub returns-clause-own : goal.returns-clause-own
returns-clause-own c = joined_before c.args.self.0 c.args.other.0

pub returns-clause-of_other : goal.returns-clause-of_other
returns-clause-of_other c id = joined_here c.args.self.0 id c.args.other.0
