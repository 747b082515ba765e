-- What the detail of an order tells of its cell, of its account and instrument, and of its total.
use Rattle.std.specs.Prelude.{◌+◌, ◌≤◌, ◌≡◌}
use Rattle.integers.specs.Basics.{ℕ, ◌∙◌, ap, List, arith}
use Rattle.ledger.specs.declared.order.Order.{Order}
use Rattle.ledger.specs.declared.order.Side.{Side}
use Rattle.ledger.specs.declared.order.Side.TheVariants.{Buy, Sell}
use Rattle.ledger.specs.Records.{packed, Packable, detail_packed, order_of, id_at, detail_at, order_at}
use Rattle.ledger.proofs.Details.{packed_of, packable_of, order_of_lem}
use Rattle.positions.specs.Gathered.{cell}
use Rattle.positions.proofs.Gathering.{own_cell}
use Rattle.memory_soundness.specs.Cells.{row}

-- the cell of an order
cell_packed : (s : Side) (a i : ℕ) → 1 ≤ a → 1 ≤ i → row a + cell s i ≡ 65 + packed s a i
unfolding packed
cell_packed Buy a i h l = omega arith
cell_packed Sell a i h l = omega arith

module _ (id w : ℕ) where
  abbrev order : Order
  order = order_of id w

  pub cell_detail : own_cell row order ≡ 65 + detail_packed w
  cell_detail =
      let fits = packable_of id w in
      cell_packed order.side order.account order.instrument fits.0.0 fits.1.0 ∙ ap (λ (x : ℕ). 65 + x) (packed_of id w)

-- the account and the instrument of every record are numbers that can be packed
pub record_packable : (s : List ℕ) (p : ℕ) → Packable (order_at s p).account (order_at s p).instrument
record_packable s p = rw (order_of_lem s p) (packable_of (id_at s p) (detail_at s p))
