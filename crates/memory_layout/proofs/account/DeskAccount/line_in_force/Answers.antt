-- The own line's part where that line is set, else the default line's: the line in force, where there is one (`holds_line`).
use Rattle.integers.specs.Basics.{arith}
use Rattle.memory_layout.proofs.LinesInRows.{own_long, default_long, holds_line}
use Rattle.memory_layout.proofs.account.DeskAccount.line_in_force.Goals as goal

pub returns : goal.returns
returns c =
    let account = c.args.self.now in
    rw (c.line_in_force.ensures.figures, c.own_lines.ensures, c.default_lines.ensures)
    (holds_line _ account.readable _ account.on_roster _ _ _ c.requires.0 c.requires.1 c.requires.2 c.own_is_set.ensures)

pub line_in_force-requires : goal.line_in_force-requires
line_in_force-requires c =
    let account = c.args.self.now in
    rw (c.own_lines.ensures, c.default_lines.ensures) (
      omega (arith, own_long _ account.readable _ account.on_roster),
      omega (arith, default_long _ account.readable _ account.on_roster),
    )
