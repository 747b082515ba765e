-- The signed word is the balance of an instrument on the roster (`balance_in`); it fits 64 bits, so it is read back.
use Rattle.integers.specs.Basics.{w64, to_z-of_z, arith}
use Rattle.memory_layout.proofs.FieldsRead.{balances_long, balance_in}
use Rattle.memory_layout.proofs.account.DeskAccount.balance.Goals as goal

pub signed_word-requires : goal.signed_word-requires
signed_word-requires c =
    let account = c.args.self.now in
    rw c.balances.ensures
    (omega (arith, balances_long _ account.number account.on_roster account.readable, c.requires, account.readable.instruments))

pub returns : goal.returns
returns c =
    let account = c.args.self.now in
    cc (
      to_z-of_z w64 c.signed_word.result (record { sfits = c.signed_word.type_inv }),
      c.balances.ensures,
      balance_in _ account.number account.on_roster account.readable c.args.instrument c.requires,
    )
