-- The cells of one account, of those of all.
use Rattle.std.specs.Prelude.{◌+◌, ◌*◌, ◌≤◌, ◌<◌, ◌≡◌, ◌≢◌}
use Rattle.integers.specs.Basics.{ℕ, ◌∙◌, ap, List, pos, length, get_or, drop, arith}
use lib.ListN.{length-take, length-drop}
use lib.Seq.{get_or-take, get_or-drop}
use Rattle.ledger.specs.declared.order.Order.{Order}
use Rattle.ledger.specs.Roster.{Numbered}
use Rattle.positions.specs.Gathered.{cell, Gathered}
use Rattle.positions.proofs.Gathering.{cell_inside}
use Rattle.memory_layout.specs.View.{open_orders}
use Rattle.memory_soundness.specs.Cells.{AllSums, Sums}
use Rattle.memory_soundness.specs.SoundMemory.{SoundMemory}
use Rattle.memory_soundness.proofs.Gathering.{kept_sums}
use Rattle.memory_soundness.proofs.SoundDesk.{sound_records}
use Rattle.memory_judging.specs.OrderQuestions.{OnRoster}
use Rattle.memory_judging.proofs.OrderAnswers.{order_account}
use Rattle.memory_judging.specs.OrderFields.{cells_of}

module _ (cells : List ℕ) (a : ℕ) where
  size_of : length cells ≡ 1089 → a ≤ 16 → length (cells_of cells a) ≡ 65
  unfolding cells_of
  size_of size h = simp (length-take, length-drop) (omega arith)

  at : (j : ℕ) → j < 65 → get_or (cells_of cells a) j 0 ≡ get_or cells (a * 64 + j) 0
  unfolding cells_of
  at j h = get_or-take 65 (drop (a * 64) cells) j 0 h ∙ get_or-drop (a * 64) cells j 0

  gathered_of : (orders : List Order) → AllSums cells orders → Numbered 16 a → Gathered (cells_of cells a) 0 orders a
  gathered_of orders g on =
      record {
        sums = λ s i h. let first : 0 + cell s i ≡ cell s i = omega arith in
            ap (λ (j : ℕ). pos (get_or (cells_of cells a) j 0)) first ∙ ap pos (at (cell s i) (cell_inside s i h.1))
            ∙ (g.accounts a on).sums s i h;
      }

-- where cells are kept, those of an account on the roster are its row
module _ (m cells : List ℕ) (o : Order) (held : SoundMemory m) (on : OnRoster m o) (sums : Sums cells (open_orders m))
    (kept : length cells ≢ 0) where
  pub row_size : length (cells_of cells o.account) ≡ 65
  row_size = size_of cells o.account (kept_sums sums kept).size (order_account m o held on).1

  pub row_gathered : Gathered (cells_of cells o.account) 0 (open_orders m) o.account
  row_gathered = gathered_of cells o.account (open_orders m) (kept_sums sums kept) (order_account m o held on)

  pub cells_there : length cells ≡ 1089
  cells_there = (kept_sums sums kept).size

pub ruleset rows = (row_size, row_gathered, cells_there, order_account, sound_records)
