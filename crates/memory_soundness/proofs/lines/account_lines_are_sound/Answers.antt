-- Each row says its part. The largest figure of any market is a number of 32 bits.
use Rattle.std.proofs.lemmas.Grind.{common_steps}
use Rattle.integers.specs.Basics.{arith}
use Rattle.memory_layout.proofs.MarketRead.{market_most}
use Rattle.memory_soundness.specs.Soundness.{account_lines_sound}
use Rattle.memory_soundness.proofs.LineFacts.{own_row, default_row, group_row}
use Rattle.memory_soundness.proofs.lines.account_lines_are_sound.Goals as goal
use Rattle.memory_soundness.proofs.lines.account_lines_are_sound.Goals.{then-row_in_range, else-row_in_range}

pub overflow_cast-most : goal.overflow_cast-most
overflow_cast-most c = omega (arith, c.market-largest.ensures, market_most c.args.account.now.memory)

pub returns-then-row_in_range-2 : goal.returns-then-row_in_range-2
unfolding account_lines_sound
returns-then-row_in_range-2 c =
    let account = c.args.account.now in
    let own = own_row _ account.readable _ account.on_roster _ c.market-largest.ensures _ _ _ (rw c.own_lines.ensures at c.part.ensures)
    c.instruments-instruments.ensures c.row_in_range.ensures in
    let groups = group_row _ account.readable _ account.on_roster _ c.market-largest.ensures _ _ _
    (rw c.group_lines.ensures at c.part-then-row_in_range-2.ensures) c.groups-groups.ensures c.group_row_in_range.ensures in
    elim c.if-row_in_range.branch [
      | then-row_in_range w ↦ let default = default_row _ account.readable _ account.on_roster _ c.market-largest.ensures _ _ _
          (rw w.default_lines.ensures at w.part-then-row_in_range.ensures) c.contracts-contracts.ensures
          w.row_in_range-then-row_in_range.ensures in
          grind (arith, common_steps)
      | else-row_in_range w ↦ grind (arith, common_steps)
    ]

pub returns-else-row_in_range-2 : goal.returns-else-row_in_range-2
unfolding account_lines_sound
returns-else-row_in_range-2 c =
    let account = c.args.account.now in
    let own = own_row _ account.readable _ account.on_roster _ c.market-largest.ensures _ _ _ (rw c.own_lines.ensures at c.part.ensures)
    c.instruments-instruments.ensures c.row_in_range.ensures in
    elim c.if-row_in_range.branch [
      | then-row_in_range w ↦ let default = default_row _ account.readable _ account.on_roster _ c.market-largest.ensures _ _ _
          (rw w.default_lines.ensures at w.part-then-row_in_range.ensures) c.contracts-contracts.ensures
          w.row_in_range-then-row_in_range.ensures in
          grind (arith, common_steps)
      | else-row_in_range w ↦ grind (arith, common_steps)
    ]
