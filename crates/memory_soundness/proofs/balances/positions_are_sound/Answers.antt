-- Where all balances are small, each position is in range whatever the orders.
use Rattle.std.proofs.Common.{rules, tests}
use Rattle.integers.specs.Basics.{◌∙◌, sym}
use Rattle.memory_layout.specs.View.{market_of, roster_of}
use Rattle.memory_layout.proofs.All.{each_of_all}
use Rattle.memory_soundness.specs.Cells.{SmallBalances}
use Rattle.memory_soundness.proofs.PositionTests.{small_positions}
use Rattle.memory_soundness.proofs.balances.positions_are_sound.Goals as goal

pub returns-then-all : goal.returns-then-all
returns-then-all c =
    let m = c.args.desk.now in
    c.if-all.true
    ∙ sym (small_positions m (search rules) (search rules) c.requires
    (each_of_all (roster_of m).accounts (SmallBalances m (market_of m).largest) c.all.ensures.ran (search rules)
    (λ x b q k. search (rules, tests)) c.if-all.true))
