-- The cells in which B and V of all accounts are gathered, order by order.
use Rattle.std.specs.Prelude.{◌+◌, ◌*◌, ◌^◌, ◌≤◌, ◌<◌, ◌≡◌, ◌≢◌}
use Rattle.integers.specs.Basics.{ℕ, ◌∙◌, List, length, get_or, replicate, inl, inr, arith}
use lib.ListN.{length-replicate}
use Rattle.ledger.specs.declared.order.Order.{Order}
use Rattle.ledger.specs.declared.order.Side.{Side}
use Rattle.ledger.specs.Orders.{remaining}
use Rattle.ledger.specs.Roster.{Numbered}
use Rattle.ledger.specs.Records.{detail_packed, detail_remaining, order_of}
use Rattle.ledger.proofs.Packing.{word_storable}
use Rattle.ledger.proofs.Details.{remaining_of, remaining_below}
use Rattle.positions.specs.Gathered.{cell, added}
use Rattle.positions.proofs.Gathering.{Rows, own_cell, adds_own, cell_inside, empty_at, added_length, added_small, Passed as PassedRows}
use Rattle.positions.proofs.Gathering.{passed_none as rows_none, passed_all as rows_all, passed_more as rows_more}
use Rattle.memory_soundness.specs.Cells.{row, Empty, AllSums, Sums}
use Rattle.memory_soundness.proofs.Details.{cell_detail}

-- the rows of two accounts do not meet
pub rows : Rows (Numbered 16) row
rows = record { apart = λ a b j k h l u v e. omega arith }

pub row_inside : (s : Side) (a i : ℕ) → a ≤ 16 → i ≤ 32 → row a + cell s i < 1089
row_inside s a i h l = omega (arith, cell_inside s i l)

-- all cells are 0 at first
pub empty_cells : (n : ℕ) → n ≡ 1089 → Empty (replicate n 0)
empty_cells n e = record { size = length-replicate n 0 ∙ e; zero = empty_at n }

-- where cells are kept, they hold B and V of each account and instrument
pub kept_sums : {cells : List ℕ} {orders : List Order} → Sums cells orders → length cells ≢ 0 → AllSums cells orders
kept_sums (inl none) kept = absurd (kept none)
kept_sums (inr sums) kept = sums

-- ---- the orders below p: what is gathered and what is left make the whole
pub record Summed (os : List Order) (cells : List ℕ) (p : ℕ) : Type 0 where
  pub size : length cells ≡ 1089
  pub small : (j : ℕ) → get_or cells j 0 ≤ p * 134217728
  pub gathered : PassedRows (Numbered 16) row os cells p

module _ (os : List Order) (cells : List ℕ) where
  pub summed_none : Empty cells → Summed os cells 0
  summed_none e =
      record {
        size = e.size;
        small = λ j. omega (arith, e.zero j);
        gathered = rows_none (Numbered 16) row os cells e.zero;
      }

  module _ (p : ℕ) (past : Summed os cells p) where
    pub summed_all : length os ≤ p → AllSums cells os
    summed_all h = record { size = past.size; accounts = rows_all (Numbered 16) row os cells p past.gathered h }

    -- the next order, by its id and its detail
    pub summed_more : (id w : ℕ) → p < length os → get_or os p (order_of id w) ≡ order_of id w → w < 2 ^ 64 → (cells' : List ℕ) →
        cells' ≡ added cells (65 + detail_packed w) (detail_remaining w) → Summed os cells' (p + 1)
    summed_more id w h here word cells' e =
        let o = order_of id w in
        let fits = word_storable id w word in
        let account = fits.packable.0 in
        let instrument = fits.packable.1 in
        let own : own_cell row o ≡ 65 + detail_packed w = cell_detail id w in
        let inside : own_cell row o < length cells =
        omega (arith, row_inside o.side o.account o.instrument account.1 instrument.1, past.size) in
        let few : detail_remaining w ≤ 134217728 = omega (arith, remaining_of id w, fits.remaining) in
        record {
          size = rw (e, added_length) past.size;
          small =
              λ j. rw e (omega (
                arith,
                added_small cells (65 + detail_packed w) (detail_remaining w) (p * 134217728) 134217728
                    (omega (arith, own)) past.small few j,
              ));
          gathered =
              rows_more (Numbered 16) row os cells p past.gathered o here h (own_cell row o) (remaining o)
              (adds_own (Numbered 16) row rows o account instrument) inside cells' (e ∙ rw (own, remaining_of id w));
        }

pub ruleset gathering = (summed_none, remaining_below)
