-- Either side of the gap may move, and both leave the list without place p: `leaves_before` moves the records before it up by one,
-- `leaves_behind` those behind it down. The tests on p, n and first are those by which `left_first` says where the first record then
-- stands.
use Rattle.integers.specs.Basics.{inl, inr, ⊎_elim, arith, rules, lt-ltb, le-ltb}
use Rattle.memory_layout.proofs.ListChanges.{leaves_before, leaves_behind}
use Rattle.memory_layout.proofs.orders.close_gap.Goals as goal

pub returns-then-first-lt256 : goal.returns-then-first-lt256
returns-then-first-lt256 c =
    let r =
    leaves_before c.args.m.now (search rules) c.requires.0 c.args.p (omega (arith, c.requires.1, c.requires.2)) _
    _ _ c.requires.1 c.word-first.ensures c.if-p-n.true (lt-ltb _ _ c.if-first-lt256.true) c.move_up.ensures in
    record { first = r.0; left = r.1 }

pub returns : goal.returns
returns c =
    let r =
    leaves_behind c.args.m.now (search rules) c.requires.0 c.args.p (omega (arith, c.requires.1, c.requires.2)) _
    _ _ c.requires.1 c.word-first.ensures (⊎_elim (λ w. inl (w.0, le-ltb _ _ w.1)) inr c.else-p-n.either) c.move_down.ensures in
    record { first = r.0; left = r.1 }
