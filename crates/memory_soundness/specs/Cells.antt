-- What remains of all open orders, gathered into 1,089 cells, a row of 64 for each account; and balances that need none of it.
use Rattle.std.specs.Prelude.{◌+◌, ◌*◌, ◌%◌, ◌^◌, ◌≤◌, ◌<◌, ◌≡◌, ◌⊎◌}
use Rattle.integers.specs.Basics.{ℕ, List, nat_abs, length, get_or}
use Rattle.ledger.specs.declared.order.Order.{Order}
use Rattle.ledger.specs.declared.order.Side.{Side}
use Rattle.ledger.specs.Records.{balances_in}
use Rattle.ledger.specs.Roster.{Numbered}
use Rattle.positions.specs.Gathered.{cell, Gathered}
use Rattle.memory_layout.specs.View.{balances_part}

-- a word with another added, as a word
abbrev pub offset_word : ℕ → ℕ → ℕ
offset_word offset w = (w + offset) % 2 ^ 64

-- the first cell of account a
abbrev pub row : ℕ → ℕ
row a = a * 64

-- nothing is gathered yet
pub record Empty (cells : List ℕ) : Type 0 where
  pub size : length cells ≡ 1089
  pub zero : (j : ℕ) → get_or cells j 0 ≡ 0

-- the cells hold B and V of each account and instrument
pub record AllSums (cells : List ℕ) (orders : List Order) : Type 0 where
  pub size : length cells ≡ 1089
  pub accounts : (a : ℕ) → Numbered 16 a → Gathered cells (row a) orders a

-- what is kept beside a memory while events are judged: those cells, or none, and then B and V are gathered where a question needs them
abbrev pub Sums : List ℕ → List Order → Type 0
Sums cells orders = (length cells ≡ 0) ⊎ AllSums cells orders

-- no cell holds more than 256 orders of 1,000,000
pub record SmallSums (cells : List ℕ) (orders : List Order) : Type 0 where
  pub sums : AllSums cells orders
  pub small : (s : Side) (a i : ℕ) → Numbered 16 a → Numbered 32 i → get_or cells (row a + cell s i) 0 ≤ 256000000

-- the balances of account a are at most 536,870,912 either way, on the roster or not, and figures run to 1,000,000,000 or more
pub record SmallBalances (m : List ℕ) (largest a : ℕ) : Type 0 where
  pub wide : 1000000000 ≤ largest
  pub small : (i : ℕ) → 1 ≤ i → i < 33 → nat_abs (balances_in (balances_part m a) i) ≤ 536870912
