-- Word `group` of the account's group lines is the group's line (`holds_group_line`).
use Rattle.integers.specs.Basics.{arith}
use Rattle.words.proofs.Parts.{length_part}
use Rattle.memory_layout.specs.View.{group_lines}
use Rattle.memory_layout.proofs.LinesInRows.{groups_long, holds_group_line}
use Rattle.memory_layout.proofs.account.DeskAccount.group_line.Goals as goal

pub part-requires : goal.part-requires
part-requires c =
    let account = c.args.self.now in
    rw c.group_lines.ensures (omega (arith, groups_long _ account.readable _ account.on_roster, account.readable.groups))

pub invariant_of-result : goal.invariant_of-result
invariant_of-result c =
    let account = c.args.self.now in
    let long = groups_long _ account.readable _ account.on_roster in
    rw (c.part.ensures, c.group_lines.ensures)
    (omega (arith, length_part (group_lines account.memory account.number) c.args.group 1 (omega (arith, long, account.readable.groups))))

pub returns : goal.returns
returns c =
    let account = c.args.self.now in
    rw (c.part.ensures, c.group_lines.ensures) (holds_group_line _ account.readable _ account.on_roster _ c.requires)
