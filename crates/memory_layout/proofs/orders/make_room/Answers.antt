-- Three ways to room at place p: records before it move down, all are copied to the region's start, or those behind it move up.
-- `joins_before`, `joins_again` and `joins_behind` say of each that the room is there and the first record where `joined_first` has it.
use Rattle.std.specs.Prelude.{◌≤◌, ◌<◌, ◌≡◌, ◌⊎◌}
use Rattle.integers.specs.Basics.{ℕ, inl, inr, ⊎_elim, false, ltb, arith, rules, lt-ltb, le-ltb}
use Rattle.memory_layout.proofs.ListChanges.{joins_before, joins_behind, joins_again}
use Rattle.memory_layout.proofs.orders.make_room.Goals as goal

-- the records before the place are not moved
far : {a n f : ℕ} → ((a < n) × (f ≤ 0)) ⊎ (n ≤ a) → ((a < n) × (ltb 0 f ≡ false)) ⊎ (n ≤ a)
far = ⊎_elim (λ w. inl (w.0, le-ltb _ _ w.1)) inr

pub returns-then-first-gt0 : goal.returns-then-first-gt0
returns-then-first-gt0 c =
    let r =
    joins_before c.args.m.now (search rules) c.requires.0 c.args.p (omega (arith, c.requires.1, c.requires.2)) _
    _ _ c.requires.1 c.word-first.ensures c.if-p-n.true (lt-ltb _ _ c.if-first-gt0.true) c.move_down.ensures in
    record { first = r.0; room = r.1 }

pub returns-then-first-eq256 : goal.returns-then-first-eq256
returns-then-first-eq256 c =
    let r =
    joins_again c.args.m.now (search rules) c.requires.0 c.args.p (omega (arith, c.requires.1, c.requires.2)) _
    _ _ c.requires.1 c.word-first.ensures c.requires.3 (far c.else-p-n.either) c.if-first-eq256.true _ c.copy_down.ensures
    c.copy_down-then-first-eq256.ensures in
    record { first = r.0; room = r.1 }

pub returns : goal.returns
returns c =
    let r =
    joins_behind c.args.m.now (search rules) c.requires.0 c.args.p (omega (arith, c.requires.1, c.requires.2)) _
    _ _ c.requires.1 c.word-first.ensures c.requires.3 (far c.else-p-n.either) c.if-first-eq256.false c.move_up.ensures in
    record { first = r.0; room = r.1 }
