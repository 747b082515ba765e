-- An order's fills raise a position on a side exactly where `Moves` says so.
use Rattle.std.specs.Prelude.{◌*◌, ◌≤◌, ◌≡◌, ◌↔◌, ◌+ℤ◌, ◌-ℤ◌, ◌≤ℤ◌, ◌<ℤ◌}
use Rattle.integers.specs.Basics.{ℕ, refl, ◌∙◌, sym, ap, by_cases, ℤ, pos, +ℤ_idr, ℕ_discrete}
use Rattle.integers.specs.Basics.{signed, difference_parts}
use mathlib.Core.Logic.Dec
use native.Mathlib.Decide.{map_dec}
use native.Mathlib.Nat.{mul-le-mul}
use lib.IntN.{ℤ_discrete}
use Rattle.ledger.specs.declared.order.Order.{Order}
use Rattle.ledger.specs.Roster.{Roster, group_of_instrument, Numbered}
use Rattle.ledger.specs.Positions.{Way, Scope, instrument, group, opposite, toward, way_of, way_by, side_to, position}
use Rattle.ledger.specs.Fillings.{fill_moves}
use Rattle.ledger.specs.Moves.{Moves}
use Rattle.ledger.proofs.Ways.{side_there, side_back, opposite_apart, Way_discrete, toward_sum}
use Rattle.ledger.proofs.Amounts.{amount, amount_here, amount_apart, amount_nonneg, fill_amounts}
use Rattle.ledger.proofs.Scopes.{way_to, Bears, weight_way, position_weighted, weighted_mono, figure_strict}
use Rattle.ledger.proofs.Linear.{linear}

pub moves? : (r : Roster) (o : Order) (p : Scope) (w : Way) → Dec (Moves r o p w)
moves? r o (instrument i) w = Dec.and (ℕ_discrete o.instrument i) (Way_discrete (way_of o.side) w)
moves? r o (group g) w =
    let K = r.weight o.instrument in
    map_dec (λ m. (m.0, m.1.0, m.1.1)) (λ m. (m.0, (m.1, m.2)))
    (Dec.and (ℕ_discrete (group_of_instrument r o.instrument) g)
    (Dec.and (Dec.not (ℤ_discrete K (pos 0))) (Way_discrete (way_by K (way_of o.side)) w)))

-- ---- `Moves` by the way on which the order's instrument moves the scope
module _ (r : Roster) (o : Order) (w : Way) where
  pub moves_bears : (p : Scope) → Numbered r.instruments o.instrument → Moves r o p w → Bears r p o.instrument
  moves_bears (instrument j) b m = m.0
  moves_bears (group g) b m = ((b, m.0), m.1)

  pub moves_way : (p : Scope) → Moves r o p w → way_of o.side ≡ way_to r p w o.instrument
  moves_way (instrument j) m = m.1
  moves_way (group g) m = cc (weight_way (r.weight o.instrument) (way_of o.side))

  bears_moves : (p : Scope) (i : ℕ) → o.instrument ≡ i → Bears r p i → way_of o.side ≡ way_to r p w i → Moves r o p w
  bears_moves (instrument j) i e b d = (e ∙ b, d)
  bears_moves (group g) i e b d =
      (rw e b.0.1, rw e b.1, cc (weight_way (r.weight i) w))

  module _ (p : Scope) (unit : Order → ℕ) (a n i : ℕ) where
    -- where it moves a scope it counts on no instrument the other way
    pub moves_against : Moves r o p w → amount unit (side_to (opposite (way_to r p w i))) a i o n ≡ pos 0
    moves_against m =
        amount_apart unit (side_to (opposite (way_to r p w i))) a i o n
        (λ h. opposite_apart (way_to r p w i) (sym (ap way_of h.0 ∙ side_there (opposite (way_to r p w i)))
        ∙ (rw h.2 at (moves_way p m))))

    -- and where it does not, it counts on no instrument of the scope that way
    pub unmoved_amount : ¬ Moves r o p w → Bears r p i → amount unit (side_to (way_to r p w i)) a i o n ≡ pos 0
    unmoved_amount out b =
        amount_apart unit (side_to (way_to r p w i)) a i o n
        (λ h. out (bears_moves p i h.2 b (ap way_of h.0 ∙ side_there (way_to r p w i))))

-- ---- a fill by n
-- the balances of account a after it
abbrev pub after_fill : (Order → ℕ) → ℕ → (ℕ → ℤ) → Order → ℕ → ℕ → ℤ
after_fill unit a S o n i = S i +ℤ fill_moves unit a i o n

-- on a side, what the fill buys or sells there comes, and what it does on the other side goes
pub fill_moves_lem : (unit : Order → ℕ) (a : ℕ) (S : ℕ → ℤ) (o : Order) (n i : ℕ) (v : Way)
    → toward v (after_fill unit a S o n i)
    ≡ toward v (S i) +ℤ (amount unit (side_to v) a i o n -ℤ amount unit (side_to (opposite v)) a i o n)
fill_moves_lem unit a S o n i v = rw (toward_sum v (S i) (fill_moves unit a i o n), fill_amounts unit a i o n v)

module _ (unit : Order → ℕ) (r : Roster) (o : Order) (S : ℕ → ℤ) (n : ℕ) (p : Scope) (w : Way) where
  pub unmoved_falls : ¬ Moves r o p w → position r (after_fill unit o.account S o n) p w ≤ℤ position r S p w
  unmoved_falls out =
      rw (position_weighted r (after_fill unit o.account S o n) p w, position_weighted r S p w) (weighted_mono r _ _ p
      (λ i b.
      let v = way_to r p w i in
      omega (
        linear,
        fill_moves_lem unit o.account S o n i v,
        unmoved_amount r o w p unit o.account n i out b,
        amount_nonneg unit (side_to (opposite v)) o.account i o n,
        difference_parts (amount unit (side_to v) o.account i o n) (amount unit (side_to (opposite v)) o.account i o n),
      )))

  pub moves_raises : 1 ≤ n → 1 ≤ unit o → Numbered r.instruments o.instrument → Moves r o p w
      → position r S p w <ℤ position r (after_fill unit o.account S o n) p w
  moves_raises some counted b m =
      let k = o.instrument in
      rw (position_weighted r S p w, position_weighted r (after_fill unit o.account S o n) p w)
      (figure_strict r _ _ p k (moves_bears r o w p b m)
      (λ i _. omega (linear, comes i, amount_nonneg unit (side_to (way_to r p w i)) o.account i o n))
      (omega (linear, comes k, here, mul-le-mul counted some)))
    where
      counts : ℕ → ℤ
      counts i = amount unit (side_to (way_to r p w i)) o.account i o n

      here : counts o.instrument ≡ pos (unit o * n)
      here =
          amount_here unit (side_to (way_to r p w o.instrument)) o.account o.instrument o n
          (cc (moves_way r o w p m, side_back o.side), refl, refl)

      comes : (i : ℕ) → toward (way_to r p w i) (after_fill unit o.account S o n i) ≡ toward (way_to r p w i) (S i) +ℤ counts i
      comes i =
          rw (moves_against r o w p unit o.account n i m, +ℤ_idr (counts i)) at (fill_moves_lem unit o.account S o n i (way_to r p w i))

  pub raises_moves : position r S p w <ℤ position r (after_fill unit o.account S o n) p w → Moves r o p w
  raises_moves raised = by_cases (moves? r o p w) (λ m. m) (λ out. let f = unmoved_falls out in absurd (omega signed))

  pub moves_iff : 1 ≤ n → 1 ≤ unit o → Numbered r.instruments o.instrument → Moves r o p w
      ↔ (position r S p w <ℤ position r (after_fill unit o.account S o n) p w)
  moves_iff some counted b = (moves_raises some counted b, raises_moves)
