-- Which of questions 21 to 24 an order is asked: those of the sides to which its own fills move a position.
use Rattle.std.specs.Prelude.{◌≡◌, ◌↔◌, ◌≢◌}
use Rattle.integers.specs.Basics.{refl, true, false, not, true≢false, ℤ, pos, negsuc, not-true, ne_eqb}
use Rattle.ledger.specs.declared.order.Order.{Order}
use Rattle.ledger.specs.Roster.{Roster, group_of_instrument}
use Rattle.ledger.specs.Positions.{Way, long, short, instrument, group, way_of, way_by}
use Rattle.ledger.specs.Moves.{Moves}
use Rattle.limits.specs.Asked.{same_way, is_zero, moves_instrument, moves_group}
use Rattle.limits.proofs.Answers.{both_true, and_true}

same_way_true : (v w : Way) → same_way v w ≡ true → v ≡ w
same_way_true long long e = refl
same_way_true long short e = cc
same_way_true short long e = cc
same_way_true short short e = refl

same_itself : (w : Way) → same_way w w ≡ true
same_itself long = refl
same_itself short = refl

pub is_zero_false : (z : ℤ) → z ≢ pos 0 → is_zero z ≡ false
is_zero_false (pos n) h = ne_eqb n 0 (λ e. h (rw e))
is_zero_false (negsuc n) h = refl

-- ---- the tests are `Moves` at the order's own instrument and at its group
module _ (r : Roster) (o : Order) (w : Way) where
  pub moves_instrument_lem : (moves_instrument o w ≡ true) ↔ Moves r o (instrument o.instrument) w
  unfolding moves_instrument
  moves_instrument_lem =
      (λ e. (refl, same_way_true (way_of o.side) w e), λ m. rw m.1 (same_itself w))

  pub moves_group_lem : (moves_group r o w ≡ true) ↔ Moves r o (group (group_of_instrument r o.instrument)) w
  unfolding moves_group
  moves_group_lem =
      let k = r.weight o.instrument in
      let v = way_by k (way_of o.side) in (
        λ e.
            let h = both_true (not (is_zero k)) (same_way v w) e in
            (refl, (λ d. true≢false (rw d at (not-true (is_zero k) h.0))), same_way_true v w h.1),
        λ m. and_true (not (is_zero k)) (same_way v w) (rw (is_zero_false k m.1)) (rw m.2 (same_itself w)),
      )
