-- The cells hold B and V of the account in the records that are passed: an order adds to its cell what it counts for there.
use Rattle.std.specs.Prelude.{◌+◌, ◌≤◌, ◌<◌}
use Rattle.integers.specs.Basics.{refl, ◌∙◌, get_or, arith, signed}
use Rattle.ledger.proofs.RecordLists.{length_orders}
use Rattle.positions.proofs.Gathering.{row_fits, row_more, passed_all}
use Rattle.positions.proofs.gather.Goals as goal
use Rattle.positions.proofs.gather.Goals.{After-remaining_for}

-- the order's cell, and what is in it with what the order adds
fits : (c : After-remaining_for) → (c.cell_of.result < 65)
    × (get_or c.loop-order.cells c.cell_of.result 0 + c.remaining_for.result ≤ 100000000000)
fits c =
    rw c.cell_of.ensures (row_fits _ _ _ _ c.loop-order.invariant.0 c.loop-order.invariant.1 c.requires.0 (omega arith) _
    c.detail_of-w.ensures _ c.remaining_for.ensures)

pub of-requires : goal.of-requires
of-requires c = omega (arith, fits c)

pub add_to-requires : goal.add_to-requires
add_to-requires c =
    let small = fits (goal.at.add_to-requires c).After-remaining_for in
    rw c.of.ensures (omega (arith, small, c.loop-order.invariant.0), omega signed, omega (arith, small))

pub loop-order-preserved : goal.loop-order-preserved
loop-order-preserved c =
    row_more _ _ _ _ c.loop-order.invariant.0 c.loop-order.invariant.1 c.requires.0 (omega arith) _ c.detail_of-w.ensures _
    c.remaining_for.ensures _ (c.add_to.ensures ∙ rw (c.of.ensures, c.cell_of.ensures))

pub returns : goal.returns
returns c =
    (c.loop-order.invariant.0, passed_all _ _ _ _ _ c.loop-order.invariant.1 (omega (arith, length_orders c.args.orders.now)) _ refl)
