-- What remains of an account's open orders, gathered into cells: from the account's first cell on, cell i holds the buys and
-- cell 32 + i the sells of instrument i.
use Rattle.std.specs.Prelude.{◌+◌, ◌≡◌, ◌+ℤ◌}
use Rattle.integers.specs.Basics.{ℕ, suc, cond, List, ℤ, pos, eqb, get_or, set}
use Rattle.integers.specs.Sum.{sum_to}
use Rattle.ledger.specs.declared.order.Order.{Order}
use Rattle.ledger.specs.declared.order.Side.{Side}
use Rattle.ledger.specs.declared.order.Side.TheVariants.{Buy, Sell}
use Rattle.ledger.specs.Roster.{Roster, Numbered, group_of_instrument}
use Rattle.ledger.specs.Positions.{Way, long, short, toward, side_to, open_on, group_part}
use Rattle.ledger.specs.Derivatives.{one}

-- of two positions, the one on a side
abbrev pub on_way : Way → ℤ → ℤ → ℤ
on_way long x y = x
on_way short x y = y

-- the cell of B (side Buy) or V (side Sell) of instrument i, from the account's first cell on
abbrev pub cell : Side → ℕ → ℕ
cell Buy i = i
cell Sell i = 32 + i

-- the cells with n added to cell j
unfoldable pub added : List ℕ → ℕ → ℕ → List ℕ
added cells j n = set cells j (get_or cells j 0 + n)

-- from cell `first` on, the cells hold B and V of account a and each instrument
pub record Gathered (cells : List ℕ) (first : ℕ) (orders : List Order) (a : ℕ) : Type 0 where
  pub sums : (s : Side) (i : ℕ) → Numbered 32 i → pos (get_or cells (first + cell s i) 0) ≡ open_on one orders s a i

-- PCI (long) and PVI (short) of instrument i by the cells
unfoldable pub by_cells : List ℕ → (ℕ → ℤ) → ℕ → Way → ℤ
by_cells cells S i w = toward w (S i) +ℤ pos (get_or cells (cell (side_to w) i) 0)

-- instrument i's part in PCC (long) or PVC (short) of group g by the cells: none where it is of another group
unfoldable pub part_by_cells : List ℕ → (ℕ → ℤ) → Roster → ℕ → ℕ → Way → ℤ
part_by_cells cells S r g i w =
    cond (eqb (group_of_instrument r i) g) (group_part w (r.weight i) (by_cells cells S i)) (pos 0)

-- the parts of the first n instruments together
unfoldable pub sum_by_cells : List ℕ → (ℕ → ℤ) → Roster → ℕ → ℕ → Way → ℤ
sum_by_cells cells S r g n w = sum_to (λ j. part_by_cells cells S r g (suc j) w) n
