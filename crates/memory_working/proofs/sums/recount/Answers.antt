-- The order's cell holds B or V: what counts then is put in and what counted taken out; no other cell moves.
use Rattle.integers.specs.Basics.{ℕ, ◌+◌, ◌≢◌, ap, inr, length, rules}
use Rattle.memory_soundness.proofs.Gathering.{kept_sums}
use Rattle.memory_working.proofs.Keeping.{settled, kept, enough}
use Rattle.memory_working.proofs.sums.recount.Goals as goal

pub returns : goal.returns
returns c id orders orders' held changes =
    let some : length c.args.cells.now ≢ 0 = search rules in
    let sums = kept_sums held some in
    let cell = ap (λ (j : ℕ). 65 + j) c.packed.ensures in
    let counted =
    settled (rw cell (enough _ _ _ sums id _ _ _ changes)) c.of.ensures c.of-2.ensures c.of-3.ensures c.add.ensures c.sub.ensures
    c.number.ensures in
    inr (rw counted (kept _ _ _ sums id _ _ _ changes _ cell))
