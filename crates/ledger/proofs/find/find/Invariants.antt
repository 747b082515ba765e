-- The loop yields the first place from `from` on: a record that it leaves has another id, so the first place from p on stays the same.
use Rattle.std.specs.Prelude.{◌-◌, ◌≤◌, ◌≡◌}
use Rattle.integers.specs.Basics.{length, drop}
use Rattle.ledger.specs.Orders.{place_from}
use Rattle.ledger.specs.Records.{orders_of}
use Rattle.ledger.proofs.find.find.Given as goal

abbrev pub invariant-loop-p : goal.invariant-loop-p
invariant-loop-p l =
    (l.p ≤ length l.orders)
    × (place_from l.from l.id (drop l.from (orders_of l.orders)) ≡ place_from l.p l.id (drop l.p (orders_of l.orders)))

abbrev pub decreases-loop-p : goal.decreases-loop-p
decreases-loop-p l = length l.orders - l.p
