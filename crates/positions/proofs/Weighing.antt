-- An instrument's part in its group's position, by the sign of its weight, and the sum of the parts by the cells.
use Rattle.std.specs.Prelude.{◌+◌, ◌*◌, ◌-◌, ◌≤◌, ◌≡◌, ◌≢◌, ◌+ℤ◌, ◌*ℤ◌, ◌≤ℤ◌, ◌<ℤ◌}
use Rattle.integers.specs.Basics.{ℕ, zero, suc, refl, ◌∙◌, sym, ap, cond, List, ℤ, pos, negsuc, neg_ℤ, nat_abs}
use Rattle.integers.specs.Basics.{+ℤ_idr, eqb, get_or, arith, eq-eqb, ne_eqb, signed}
use Rattle.integers.specs.Magnitude.{magnitude_sum, magnitude_negation, magnitude_product_≤}
use Rattle.integers.specs.Sum.{sum_to_none, sum_to_more, sum_to_same, sum_to_magnitude}
use Rattle.ledger.specs.declared.order.Order.{Order}
use Rattle.ledger.specs.declared.order.Side.{Side}
use Rattle.ledger.specs.declared.order.Side.TheVariants.{Buy, Sell}
use Rattle.ledger.specs.Roster.{Roster, Numbered, group_of_instrument}
use Rattle.ledger.specs.Positions.{Way, long, short, group, opposite, side_to, open_on, of_instrument, group_part, sum_group, potential}
use Rattle.ledger.specs.Records.{balances_in, roster_in}
use Rattle.ledger.specs.Derivatives.{one}
use Rattle.ledger.proofs.Ways.{by_test}
use Rattle.ledger.proofs.Scopes.{part_same}
use Rattle.positions.specs.Gathered.{on_way, cell, Gathered, by_cells, part_by_cells, sum_by_cells}
use Rattle.positions.specs.Bounds.{WeighBounds}

-- ---- by the sign of the weight
pub part_own : (w : Way) (k : ℤ) (p : Way → ℤ) → pos 0 ≤ℤ k → group_part w k p ≡ k *ℤ p w
unfolding group_part
part_own w (pos n) p h = refl
part_own w (negsuc n) p h = absurd (omega signed)

pub part_other : (w : Way) (k : ℤ) (p : Way → ℤ) → k <ℤ pos 0 → group_part w k p ≡ neg_ℤ k *ℤ p (opposite w)
unfolding group_part
part_other w (pos n) p h = absurd (omega signed)
part_other w (negsuc n) p h = refl

pub part_magnitude : (w : Way) (k : ℤ) (p : Way → ℤ) (m n : ℕ) → nat_abs k ≤ m → ((v : Way) → nat_abs (p v) ≤ n)
    → nat_abs (group_part w k p) ≤ m * n
unfolding group_part
part_magnitude w (pos j) p m n h small = magnitude_product_≤ (pos j) (p w) m n h (small w)
part_magnitude w (negsuc j) p m n h small = magnitude_product_≤ (pos (suc j)) (p (opposite w)) m n h (small (opposite w))

pub on_way_sum : (x y u v : ℤ) (f : Way → ℤ) → x ≡ u +ℤ f long → y ≡ v +ℤ f short → (w : Way) → on_way w x y ≡ on_way w u v +ℤ f w
on_way_sum x y u v f e g long = e
on_way_sum x y u v f e g short = g

-- ---- an instrument by the cells
module _ (cells : List ℕ) (S : ℕ → ℤ) (i : ℕ) where
  pub by_cells_lem : (x y : ℤ) → x ≡ S i +ℤ pos (get_or cells i 0) → y ≡ neg_ℤ (S i) +ℤ pos (get_or cells (32 + i) 0) → (w : Way)
      → on_way w x y ≡ by_cells cells S i w
  unfolding by_cells
  by_cells_lem x y e f long = e
  by_cells_lem x y e f short = f

  pub by_cells_magnitude : (w : Way) → nat_abs (S i) ≤ 100000000000 → ((s : Side) → get_or cells (cell s i) 0 ≤ 100000000000)
      → nat_abs (by_cells cells S i w) ≤ 200000000000
  unfolding by_cells
  by_cells_magnitude long h small =
      omega (arith, small Buy, magnitude_sum (S i) (pos (get_or cells i 0)))
  by_cells_magnitude short h small =
      omega (arith, small Sell, magnitude_negation (S i), magnitude_sum (neg_ℤ (S i)) (pos (get_or cells (32 + i) 0)))

  module _ (r : Roster) (g : ℕ) (w : Way) where
    pub part_outside : group_of_instrument r i ≢ g → (x : ℤ) → x ≡ x +ℤ part_by_cells cells S r g i w
    unfolding part_by_cells
    part_outside other x = simp (ne_eqb (group_of_instrument r i) g other, +ℤ_idr)

    pub part_inside : group_of_instrument r i ≡ g → (k x y z : ℤ) → k ≡ r.weight i → ((v : Way) → on_way v x y ≡ by_cells cells S i v)
        → z ≡ group_part w k (λ v. on_way v x y) → z ≡ part_by_cells cells S r g i w
    unfolding part_by_cells
    part_inside own k x y z weight same e =
        e
        ∙ part_same w k (λ v. on_way v x y) (by_cells cells S i) same
        ∙ simp (weight, eq-eqb (group_of_instrument r i) g own)

    pub part_small : nat_abs (r.weight i) ≤ 1000000 → nat_abs (S i) ≤ 100000000000 → ((s : Side) → get_or cells (cell s i) 0 ≤ 100000000000)
        → nat_abs (part_by_cells cells S r g i w) ≤ 200000000000000000
    unfolding part_by_cells
    part_small weight balance small =
        let magnitude = part_magnitude w (r.weight i) (by_cells cells S i) 1000000 200000000000 weight in
        by_test (eqb (group_of_instrument r i) g) (λ t. rw t (magnitude (λ v. by_cells_magnitude v balance small)))
        (λ t. rw t (omega arith))

-- where the bounds hold, the positions of an instrument of the roster are small, and so is its part in a group's
module _ (cells balances roster : List ℕ) (bounds : WeighBounds cells balances roster)
    (i : ℕ) (inside : Numbered (roster_in roster).instruments i) where
  unfilled_small : (s : Side) → get_or cells (cell s i) 0 ≤ 100000000000
  unfilled_small s = bounds.unfilled s i (omega (arith, bounds.roster_small.instruments), omega (arith, bounds.roster_small.instruments))

  pub instrument_small : (w : Way) → nat_abs (by_cells cells (balances_in balances) i w) ≤ 200000000000
  instrument_small w =
      by_cells_magnitude cells (balances_in balances) i w (bounds.balances_small.balance i inside) unfilled_small

  pub part_of_small : (g : ℕ) (w : Way) →
      nat_abs (part_by_cells cells (balances_in balances) (roster_in roster) g i w) ≤ 200000000000000000
  part_of_small g w =
      part_small cells (balances_in balances) i (roster_in roster) g w (bounds.roster_small.weight i inside)
      (bounds.balances_small.balance i inside) unfilled_small

-- an account's cells alone
pub gathered_at : {cells : List ℕ} {orders : List Order} {a : ℕ} → Gathered cells 0 orders a → (s : Side) (i : ℕ) → Numbered 32 i
    → pos (get_or cells (cell s i) 0) ≡ open_on one orders s a i
gathered_at g s i h = let e : 0 + cell s i ≡ cell s i = omega arith in rw e at (g.sums s i h)

pub by_cells_potential : (cells : List ℕ) (S : ℕ → ℤ) (orders : List Order) (a : ℕ) → Gathered cells 0 orders a → (w : Way) (i : ℕ)
    → Numbered 32 i → by_cells cells S i w ≡ of_instrument one orders a S i w
unfolding by_cells of_instrument
by_cells_potential cells S orders a gathered w i h = rw (gathered_at gathered (side_to w) i h)

-- ---- the sum
module _ (cells : List ℕ) (S : ℕ → ℤ) (r : Roster) (g : ℕ) (w : Way) where
  pub sum_none : on_way w (pos 0) (pos 0) ≡ sum_by_cells cells S r g 0 w
  unfolding sum_by_cells
  sum_none = none w ∙ sym (sum_to_none _)
    where
      none : (v : Way) → on_way v (pos 0) (pos 0) ≡ pos 0
      none long = refl
      none short = refl

  -- the part of instrument i joins those before it, which makes the first n
  pub sum_more : (i n : ℕ) → 1 ≤ i → n ≡ i → (x y : ℤ) → x ≡ sum_by_cells cells S r g (i - 1) w → y ≡ x +ℤ part_by_cells cells S r g i w
      → y ≡ sum_by_cells cells S r g n w
  unfolding sum_by_cells
  sum_more zero n h same x y e f = absurd (omega arith)
  sum_more (suc j) n h same x y e f =
      let before : suc j - 1 ≡ j = omega arith in
      let next : n ≡ j + 1 = omega arith in
      f ∙ rw (e, before, next) (sym (sum_to_more (λ k. part_by_cells cells S r g (suc k) w) j))

  pub sum_small : (n : ℕ) → n ≤ 32 → ((i : ℕ) → Numbered n i → nat_abs (r.weight i) ≤ 1000000)
      → ((i : ℕ) → Numbered n i → nat_abs (S i) ≤ 100000000000)
      → ((s : Side) (i : ℕ) → Numbered 32 i → get_or cells (cell s i) 0 ≤ 100000000000)
      → nat_abs (sum_by_cells cells S r g n w) ≤ 8000000000000000000
  unfolding sum_by_cells
  sum_small n few weight balance small =
      omega (
        arith,
        sum_to_magnitude (λ j. part_by_cells cells S r g (suc j) w) n 200000000000000000
            (λ j h. part_small cells S (suc j) r g w (weight (suc j) (omega arith)) (balance (suc j) (omega arith))
            (λ s. small s (suc j) (omega arith))),
      )

  -- where the cells hold B and V, the sum is the potential position
  pub sum_potential : (orders : List Order) (a : ℕ) → Gathered cells 0 orders a → r.instruments ≤ 32 → (x : ℤ)
      → x ≡ sum_by_cells cells S r g r.instruments w → x ≡ potential one r orders a S (group g) w
  unfolding sum_by_cells part_by_cells potential sum_group
  sum_potential orders a gathered few x e =
      e
      ∙ sum_to_same _ _ r.instruments (λ j h. ap (λ (z : ℤ). cond (eqb (group_of_instrument r (suc j)) g) z (pos 0))
      (part_same w (r.weight (suc j)) (by_cells cells S (suc j)) (of_instrument one orders a S (suc j))
      (λ v. by_cells_potential cells S orders a gathered v (suc j) (omega arith))))

pub cells_small : (cells : List ℕ) (orders : List Order) (a : ℕ) → Gathered cells 0 orders a
    → ((s : Side) (i : ℕ) → nat_abs (open_on one orders s a i) ≤ 100000000000) → (s : Side) (i : ℕ) → Numbered 32 i
    → get_or cells (cell s i) 0 ≤ 100000000000
cells_small cells orders a gathered small s i h = omega (arith, small s i, ap nat_abs (gathered_at gathered s i h))
