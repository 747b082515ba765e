-- What the answers of the code are to be, by the definitions, on a derivatives desk.
use Rattle.std.specs.Prelude.{◌≡◌}
use Rattle.integers.specs.Basics.{ℕ, List}
use Rattle.ledger.specs.declared.order.Order.{Order}
use Rattle.positions.specs.declared.InstrumentPosition.{InstrumentPosition}
use Rattle.positions.specs.declared.GroupPosition.{GroupPosition}
use Rattle.ledger.specs.Positions.{long, short, group, of_instrument, potential}
use Rattle.ledger.specs.Records.{balances_in, roster_in}
use Rattle.ledger.specs.Derivatives.{one}

-- of account a in instrument i: its balance, PCI and PVI
pub record InInstrument (orders : List Order) (balances : List ℕ) (a i : ℕ) (p : InstrumentPosition) : Type 0 where
  pub its_balance : p.balance.0 ≡ balances_in balances i
  pub its_long : p.long.0 ≡ of_instrument one orders a (balances_in balances) i long
  pub its_short : p.short.0 ≡ of_instrument one orders a (balances_in balances) i short

-- of account a in group g: PCC and PVC
pub record InGroup (orders : List Order) (balances roster : List ℕ) (a g : ℕ) (p : GroupPosition) : Type 0 where
  pub its_long : p.long.0 ≡ potential one (roster_in roster) orders a (balances_in balances) (group g) long
  pub its_short : p.short.0 ≡ potential one (roster_in roster) orders a (balances_in balances) (group g) short
