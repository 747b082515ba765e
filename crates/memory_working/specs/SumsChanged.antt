-- What an accepted event does to B and V: what counts of one order goes from `before` contracts to `after`, and no other sum changes.
use Rattle.std.specs.Prelude.{◌+◌, ◌≤◌, ◌≡◌, ◌+ℤ◌}
use Rattle.integers.specs.Basics.{ℕ, List, length, get_or}
use Rattle.ledger.specs.declared.order.Order.{Order}
use Rattle.ledger.specs.declared.order.Side.{Side}
use Rattle.ledger.specs.Positions.{open_on}
use Rattle.ledger.specs.Records.{detail_packed}
use Rattle.ledger.specs.Derivatives.{one}
use Rattle.limits.specs.Raised.{added_on}

pub record SumsChanged (o : Order) (before after : ℕ) (orders orders' : List Order) : Type 0 where
  pub small : after ≤ 1000000
  pub sums : (s : Side) (a i : ℕ)
      → open_on one orders' s a i +ℤ added_on before o s a i ≡ open_on one orders s a i +ℤ added_on after o s a i

-- the cell of the order of a detail, of all accounts' cells
abbrev pub cell_of : ℕ → ℕ
cell_of w = 65 + detail_packed w

-- that cell can take what counts after in the place of what counted before
pub record Countable (cells : List ℕ) (w before after : ℕ) : Type 0 where
  pub size : length cells ≡ 1089
  pub small : get_or cells (cell_of w) 0 ≤ 256000000
  pub added : after ≤ 1000000
  pub enough : before ≤ get_or cells (cell_of w) 0 + after
