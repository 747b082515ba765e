-- The positions by the balance and the two cells, which are small and so read as themselves.
use Rattle.std.specs.Prelude.{◌≡◌}
use Rattle.integers.specs.Basics.{◌∙◌, w64, to_z-of_z, arith}
use Rattle.words.specs.Words.{signed_at}
use Rattle.ledger.specs.declared.order.Side.TheVariants.{Buy, Sell}
use Rattle.ledger.proofs.Fits.{again}
use Rattle.positions.proofs.Weighing.{by_cells_lem}
use Rattle.positions.proofs.Account.instrument.Goals as goal
use Rattle.positions.proofs.Account.instrument.Goals.{After-signed_word}

-- what the machine reads is the balance, B and V
balance : (c : After-signed_word) → again c.signed_word.result ≡ signed_at c.args.self.now.balances.now c.args.i
balance c =
    to_z-of_z w64 c.signed_word.result (record { sfits = c.signed_word.type_inv }) ∙ c.signed_word.ensures

pub position_by-requires : goal.position_by-requires
position_by-requires c =
    let bounds = c.args.self.now.bounds in
    rw (balance (goal.at.position_by-requires c).After-signed_word, c.of-buys.ensures, c.of-sells.ensures) (
      omega (arith, bounds.unfilled Buy c.args.i (omega arith), bounds.balances_small.balance c.args.i c.requires),
      omega (arith, bounds.unfilled Sell c.args.i (omega arith), bounds.balances_small.balance c.args.i c.requires),
    )

pub returns : goal.returns
returns c =
    let e = balance (goal.at.returns c).After-signed_word in
    by_cells_lem _ _ _ _ _ (c.position_by.ensures.1 ∙ rw (e, c.of-buys.ensures)) (c.position_by.ensures.2 ∙ rw (e, c.of-sells.ensures))

pub of-buys-requires : goal.of-buys-requires
of-buys-requires c = omega (arith, c.args.self.now.bounds.unfilled Buy c.args.i (omega arith))

pub of-sells-requires : goal.of-sells-requires
of-sells-requires c = omega (arith, c.args.self.now.bounds.unfilled Sell c.args.i (omega arith))
