-- The balance and the cell of the order's side, with the rise, make PCI or PVI.
use Rattle.integers.specs.Basics.{◌∙◌, w64, to_z-of_z}
use Rattle.ledger.specs.Records.{balances_in}
use Rattle.limits.proofs.Room.{with_more}
use Rattle.limits.proofs.within.instrument_with.Goals as goal

pub returns : goal.returns
returns c =
    c.potential.ensures
    ∙ rw (
      to_z-of_z w64 c.signed_word.result (record { sfits = c.signed_word.type_inv }),
      c.signed_word.ensures,
      c.add.ensures,
      c.of-before.ensures,
      c.cell.ensures,
    )
    (with_more c.args.account.now.cells.now (balances_in c.args.account.now.balances.now) c.args.o.instrument c.args.o.side c.args.added.0)
