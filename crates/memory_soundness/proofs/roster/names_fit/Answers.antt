-- Each table is that of the roster (`names_tests`).
use Rattle.integers.specs.Basics.{arith}
use Rattle.ledger.specs.Roster.{Numbered}
use Rattle.book.specs.Decoding.{between}
use Rattle.book.proofs.Tables.{between_numbered}
use Rattle.memory_layout.proofs.RosterLaws.{numbered_between}
use Rattle.memory_soundness.proofs.RosterLaws.{sizes_numbered, names_tests}
use Rattle.memory_soundness.proofs.Tables.{table_told}
use Rattle.memory_soundness.proofs.roster.names_fit.Goals as goal

pub returns-then-all_named : goal.returns-then-all_named
returns-then-all_named c =
    let sizes = sizes_numbered c.args.m.now c.requires in
    let groups = rw (c.group_table.ensures.table, c.roster-roster.ensures, c.contracts.ensures, c.groups.ensures) at
    (table_told c.group_table.result.now _ c.contracts.result (omega (arith, sizes, c.contracts.ensures, c.group_table.ensures.long))
    c.part.ensures (between 1 c.groups.result) (Numbered c.groups.result) (numbered_between c.groups.result)
    (between_numbered c.groups.result) _ c.all_named.ensures) in
    let contracts = rw (
      c.contract_table.ensures.table,
      c.roster-roster.ensures,
      c.instruments.ensures,
      c.contracts-then-all_named.ensures,
    ) at
    (table_told c.contract_table.result.now _ c.instruments.result
    (omega (arith, sizes, c.instruments.ensures, c.contract_table.ensures.long))
    c.part-then-all_named.ensures (between 1 c.contracts-then-all_named.result) (Numbered c.contracts-then-all_named.result)
    (numbered_between c.contracts-then-all_named.result) (between_numbered c.contracts-then-all_named.result) _
    c.all_named-then-all_named.ensures) in
    rw (names_tests _ c.requires) (grind arith)

pub returns-else-all_named : goal.returns-else-all_named
returns-else-all_named c =
    let sizes = sizes_numbered c.args.m.now c.requires in
    let groups = rw (c.group_table.ensures.table, c.roster-roster.ensures, c.contracts.ensures, c.groups.ensures) at
    (table_told c.group_table.result.now _ c.contracts.result (omega (arith, sizes, c.contracts.ensures, c.group_table.ensures.long))
    c.part.ensures (between 1 c.groups.result) (Numbered c.groups.result) (numbered_between c.groups.result)
    (between_numbered c.groups.result) _ c.all_named.ensures) in
    rw (names_tests _ c.requires) (grind arith)
