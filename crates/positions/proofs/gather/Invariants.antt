-- The cells hold B and V of the account in the records that are passed: an order adds to its cell what it counts for there.
use Rattle.std.specs.Prelude.{◌≡◌}
use Rattle.integers.specs.Basics.{length}
use Rattle.positions.proofs.Gathering.{PassedOf}
use Rattle.positions.proofs.gather.Given as goal

abbrev pub invariant-loop-order : goal.invariant-loop-order
invariant-loop-order l = (length l.cells ≡ 65) × PassedOf l.orders l.account l.cells l.order-index
