-- The table of weights is that of the roster (`weights_tests`).
use Rattle.std.specs.Prelude.{◌≤◌}
use Rattle.std.proofs.Common.{nat_abs}
use Rattle.integers.specs.Basics.{leb, leb-true, le-leb, arith, rules}
use Rattle.integers.specs.TwosComplement.{signed_of}
use Rattle.words.specs.Words.{signed_at}
use Rattle.memory_soundness.specs.Soundness.{roster_sound}
use Rattle.memory_soundness.proofs.RosterLaws.{sizes_numbered, weights_tests}
use Rattle.memory_soundness.proofs.Tables.{table_told}
use Rattle.memory_soundness.proofs.roster.roster_is_sound.Goals as goal

pub returns-then-names_fit : goal.returns-then-names_fit
unfolding roster_sound signed_at
returns-then-names_fit c =
    let sizes = sizes_numbered c.args.m.now (search rules) in
    let weights = rw (c.weight_table.ensures.table, c.roster.ensures, c.instruments.ensures) at
    (table_told c.weight_table.result.now _ c.instruments.result (omega (arith, sizes, c.instruments.ensures, c.weight_table.ensures.long))
    c.part.ensures (λ w. leb (nat_abs (signed_of 64 w)) 1000000) (λ w. nat_abs (signed_of 64 w) ≤ 1000000) (λ w h. le-leb _ _ h)
    (λ w e. leb-true _ _ e) _ c.weights_fit.ensures) in
    grind (arith, weights_tests)
