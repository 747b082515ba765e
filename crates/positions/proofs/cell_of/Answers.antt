-- A detail's lowest six bits are the side and the instrument less 1, so that one more is the cell.
use Rattle.std.specs.Prelude.{◌+◌, ◌/◌, ◌%◌, ◌≡◌}
use Rattle.integers.specs.Basics.{ℕ, ℕ_discrete, arith, eq-eqb, ne_eqb}
use Rattle.ledger.specs.Records.{packed_side, packed_instrument}
use Rattle.positions.specs.Gathered.{cell}
use Rattle.positions.proofs.cell_of.Goals as goal

low_bits : (w : ℕ) → w % 64 + 1 ≡ cell (packed_side w) (packed_instrument w)
unfolding packed_side
low_bits w = by (ℕ_discrete (w / 32 % 2) 0)
  where
    by : Dec (w / 32 % 2 ≡ 0) → w % 64 + 1 ≡ cell (packed_side w) (packed_instrument w)
    by (yes buy) = rw (eq-eqb (w / 32 % 2) 0 buy) (omega arith)
    by (no sell) = rw (ne_eqb (w / 32 % 2) 0 sell) (omega (arith, sell))

pub returns : goal.returns
returns c = low_bits c.args.w.0
