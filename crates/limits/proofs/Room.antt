-- Potential positions as the code makes them up by the cells, and how large they are within the bounds.
use Rattle.std.specs.Prelude.{◌≤◌, ◌≡◌, ◌+ℤ◌, ◌*ℤ◌}
use Rattle.integers.specs.Basics.{ℕ, refl, ◌∙◌, sym, ap, List, ℤ, pos, nat_abs, get_or, arith}
use lib.IntN.{+ℤ_assoc}
use Rattle.integers.specs.Magnitude.{magnitude_product_≤}
use Rattle.ledger.specs.declared.order.Order.{Order}
use Rattle.ledger.specs.declared.order.Side.{Side}
use Rattle.ledger.specs.Roster.{Numbered}
use Rattle.ledger.specs.Positions.{Way, group, toward, way_of, of_instrument, potential}
use Rattle.ledger.specs.Records.{balances_in, roster_in}
use Rattle.ledger.specs.Derivatives.{one}
use Rattle.positions.specs.Gathered.{cell, Gathered, by_cells, sum_by_cells}
use Rattle.positions.specs.Bounds.{WeighBounds}
use Rattle.ledger.proofs.Ways.{side_back}
use Rattle.positions.proofs.Weighing.{by_cells_potential, sum_small, sum_potential}

-- PCI or PVI by what is open on the order's side and n more
pub with_more : (cells : List ℕ) (S : ℕ → ℤ) (i : ℕ) (s : Side) (n : ℤ)
    → toward (way_of s) (S i) +ℤ (pos (get_or cells (cell s i) 0) +ℤ n) ≡ by_cells cells S i (way_of s) +ℤ n
unfolding by_cells
with_more cells S i s n = rw (side_back s) (sym (+ℤ_assoc (toward (way_of s) (S i)) (pos (get_or cells (cell s i) 0)) n))

pub rise_room : (k : ℕ) (n : ℤ) → k ≤ 1000000 → nat_abs n ≤ 1000000000 → nat_abs (pos k *ℤ n) ≤ 1000000000000000
rise_room k n h l = magnitude_product_≤ (pos k) n 1000000 1000000000 h l

module _ (cells balances roster : List ℕ) (bounds : WeighBounds cells balances roster) where
  pub group_room : (g : ℕ) (w : Way)
      → nat_abs (sum_by_cells cells (balances_in balances) (roster_in roster) g (roster_in roster).instruments w) ≤ 8000000000000000000
  group_room g w =
      sum_small cells (balances_in balances) (roster_in roster) g w (roster_in roster).instruments bounds.roster_small.instruments
      bounds.roster_small.weight bounds.balances_small.balance bounds.unfilled

  -- where the cells hold B and V, the positions are those that the orders give
  module _ (before : List Order) (a : ℕ) (gathered : Gathered cells 0 before a) (w : Way) (x : ℤ) where
    pub of_orders : (i : ℕ) → Numbered (roster_in roster).instruments i → (y : ℤ) → y ≡ by_cells cells (balances_in balances) i w +ℤ x
        → y ≡ of_instrument one before a (balances_in balances) i w +ℤ x
    of_orders i numbered y e =
        let n : Numbered 32 i = (numbered.0, omega (arith, numbered.1, bounds.roster_small.instruments)) in
        e ∙ ap (λ (z : ℤ). z +ℤ x) (by_cells_potential cells (balances_in balances) before a gathered w i n)

    pub of_group_lem : (g : ℕ) (y : ℤ) → y ≡ sum_by_cells cells (balances_in balances) (roster_in roster) g
        (roster_in roster).instruments w +ℤ x
        → y ≡ potential one (roster_in roster) before a (balances_in balances) (group g) w +ℤ x
    of_group_lem g y e =
        e
        ∙ ap (λ (z : ℤ). z +ℤ x) (sum_potential cells (balances_in balances) (roster_in roster) g w before a gathered
        bounds.roster_small.instruments
        (sum_by_cells cells (balances_in balances) (roster_in roster) g (roster_in roster).instruments w) refl)
