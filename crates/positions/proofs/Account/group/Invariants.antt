-- The sum of the parts of the instruments that are passed, from none on; with all of them it is the group's position.
use Rattle.std.specs.Prelude.{◌-◌, ◌≤◌, ◌≡◌}
use Rattle.ledger.specs.Positions.{Way}
use Rattle.ledger.specs.Records.{balances_in, roster_in}
use Rattle.positions.specs.Gathered.{on_way, sum_by_cells}
use Rattle.positions.proofs.Account.group.Given as goal

abbrev pub invariant-loop-i : goal.invariant-loop-i
invariant-loop-i l = (l.i - 1 ≤ l.i-end)
    × ((w : Way) → on_way w l.sum.long.0 l.sum.short.0
    ≡ sum_by_cells l.self.cells.now (balances_in l.self.balances.now) (roster_in l.self.roster.now) l.group (l.i - 1) w)
