-- The two tests of the code are those of S + B and −S + V, asked without a sum with the balance, which may be any word.
use Rattle.std.proofs.lemmas.Grind.{common_steps}
use Rattle.integers.specs.Basics.{◌∙◌, sym, ap, pos, w64, to_z-of_z, arith}
use Rattle.ledger.specs.declared.order.Side.TheVariants.{Buy, Sell}
use Rattle.memory_layout.proofs.MarketRead.{market_most}
use Rattle.memory_soundness.proofs.PositionTests.{cell_small, instrument_tested}
use Rattle.memory_soundness.proofs.balances.instrument_is_sound.Goals as goal

pub of-b-requires : goal.of-b-requires
of-b-requires c =
    let account = c.args.account.now in
    omega (arith, cell_small _ _ _ _ account.readable c.requires.0 account.on_roster c.requires.1 Buy)

pub of-v-requires : goal.of-v-requires
of-v-requires c =
    let account = c.args.account.now in
    omega (arith, cell_small _ _ _ _ account.readable c.requires.0 account.on_roster c.requires.1 Sell)

pub sub-requires : goal.sub-requires
sub-requires c =
    let account = c.args.account.now in
    let small = cell_small _ _ _ _ account.readable c.requires.0 account.on_roster c.requires.1 Buy in
    rw (c.of-most.ensures, c.of-b.ensures, c.market.ensures) (omega (arith, market_most account.memory))

pub sub-requires-then-le : goal.sub-requires-then-le
sub-requires-then-le c =
    let account = c.args.account.now in
    let small = cell_small _ _ _ _ account.readable c.requires.0 account.on_roster c.requires.1 Sell in
    rw (c.of-most.ensures, c.of-v.ensures, c.market.ensures) (omega (arith, market_most account.memory))

pub returns-then-le : goal.returns-then-le
returns-then-le c =
    let account = c.args.account.now in
    let again = to_z-of_z w64 c.balance.result (record { sfits = c.balance.type_inv }) in
    let tested =
    instrument_tested _ _ _ _ account.readable c.requires.0 account.on_roster c.requires.1 _ _ _ _ c.balance.ensures c.of-b.ensures
    c.of-v.ensures (c.of-most.ensures ∙ ap pos c.market.ensures) in
    let first = simp (again, c.sub.ensures) at c.le.ensures in
    let second = simp (again, c.sub-then-le.ensures) at c.le-then-le.ensures in
    second ∙ (rw (sym first ∙ c.if-le.true) at tested)

pub returns-else-le : goal.returns-else-le
returns-else-le c =
    let account = c.args.account.now in
    let again = to_z-of_z w64 c.balance.result (record { sfits = c.balance.type_inv }) in
    let tested =
    instrument_tested _ _ _ _ account.readable c.requires.0 account.on_roster c.requires.1 _ _ _ _ c.balance.ensures c.of-b.ensures
    c.of-v.ensures (c.of-most.ensures ∙ ap pos c.market.ensures) in
    let first = simp (again, c.sub.ensures) at c.le.ensures in
    grind (arith, common_steps)
