-- The words of the row from number 1 on are those of the balances (`each_from_one`).
use Rattle.std.specs.Prelude.{◌≤◌}
use Rattle.std.proofs.Common.{rules, nat_abs}
use Rattle.integers.specs.Basics.{arith}
use Rattle.integers.specs.TwosComplement.{signed_of}
use Rattle.words.specs.Words.{signed_at}
use Rattle.memory_layout.specs.View.{balances_part}
use Rattle.memory_layout.proofs.FieldsRead.{balances_long}
use Rattle.memory_soundness.proofs.Tables.{each_from_one}
use Rattle.memory_soundness.proofs.balances.balances_are_small.Goals as goal

pub returns-then-market-ge1000000000 : goal.returns-then-market-ge1000000000
unfolding signed_at
returns-then-market-ge1000000000 c told =
    let account = c.args.account.now in
    let row = balances_part account.memory account.number in
    let long = balances_long account.memory account.number account.on_roster account.readable in
    record {
      wide = search rules;
      small =
          λ i low high. each_from_one row _ 32 (omega (arith, long)) (rw c.balances.ensures at c.part.ensures)
          (λ w. nat_abs (signed_of 64 w) ≤ 536870912) (c.all_small.ensures told) i (low, omega arith);
    }
