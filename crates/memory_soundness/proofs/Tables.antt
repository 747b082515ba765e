-- The part of a table, or of a row of lines, from number 1 on: what is so of each of its words is so of the table's numbers.
use Rattle.std.specs.Prelude.{◌+◌, ◌-◌, ◌*◌, ◌/◌, ◌≤◌, ◌<◌, ◌≡◌, ◌↔◌, IsTrue}
use Rattle.std.specs.Bool.{one_answer}
use Rattle.integers.specs.Basics.{ℕ, Bool, true, List, length, arith}
use Rattle.words.specs.Words.{word_at, part_of}
use Rattle.words.proofs.Parts.{length_part, word_part}
use Rattle.ledger.specs.Roster.{Numbered}
use Rattle.limits.specs.declared.lines.Line.{Line}
use Rattle.limits.specs.InBytes.{line_at}
use Rattle.memory_layout.specs.Rosters.{every}
use Rattle.memory_layout.proofs.Every.{every_in, every_out}
use Rattle.memory_layout.proofs.LinesInRows.{line_in_row}

-- ---- n words from number 1 on
module _ (table row : List ℕ) (n : ℕ) (long : (1 + n) * 8 ≤ length table) (is : row ≡ part_of table 1 n) where
  pub each_from_one : (P : ℕ → Type 0) → ((p : ℕ) → p < length row / 8 → P (word_at row p)) → (k : ℕ) → Numbered n k → P (word_at table k)
  each_from_one P each k on =
      let there : 1 + (k - 1) ≡ k = omega arith in
      rw (is, word_part table 1 n (k - 1) (omega arith), there) at (each (k - 1) (rw is (omega (arith, length_part table 1 n long))))

  each_into_one : (P : ℕ → Type 0) → ((k : ℕ) → Numbered n k → P (word_at table k)) → (p : ℕ) → p < length row / 8 → P (word_at row p)
  each_into_one P each p h =
      let inside : p < n = omega (arith, rw is at h, length_part table 1 n long) in
      rw (is, word_part table 1 n p inside) (each (1 + p) (omega arith, omega arith))

  -- t is the answer of a test of each word
  pub table_told : (test : ℕ → Bool) (P : ℕ → Type 0) → ((w : ℕ) → P w → test w ≡ true) → ((w : ℕ) → test w ≡ true → P w) → (t : Bool)
      → IsTrue t ↔ ((p : ℕ) → p < length row / 8 → P (word_at row p)) → t ≡ every n (λ k. test (word_at table k))
  table_told test P into out t told =
      one_answer t _ (
        (λ e. every_in _ n (λ k h. into _ (each_from_one P (told.0 e) k h))),
        λ e. told.1 (each_into_one P (λ k h. out _ (every_out _ n e k h))),
      )
      ((λ e. e), λ e. e)

-- ---- n lines of two words each from number 1 on
module _ (table row : List ℕ) (n : ℕ) (long : (2 + n * 2) * 8 ≤ length table) (is : row ≡ part_of table 2 (n * 2)) where
  same_line : (p : ℕ) → p < n → line_at row (p * 2) ≡ line_at table ((1 + p) * 2)
  same_line p h =
      let there : 2 + p * 2 ≡ (1 + p) * 2 = omega arith in
      rw (is, line_in_row table 2 (n * 2) (p * 2) (omega arith), there)

  count : length row / 16 ≡ n
  count = rw is (omega (arith, length_part table 2 (n * 2) long))

  pub lines_told : (test : Line → Bool) (t : Bool) → IsTrue t ↔ ((p : ℕ) → p < length row / 16 → test (line_at row (p * 2)) ≡ true)
      → t ≡ every n (λ k. test (line_at table (k * 2)))
  lines_told test t told =
      one_answer t _ (
        (λ e. every_in _ n (λ k h. let there : 1 + (k - 1) ≡ k = omega arith in
            rw (same_line (k - 1) (omega arith), there) at (told.0 e (k - 1) (omega (arith, count))))),
        λ e. told.1 (λ p h. let inside : p < n = omega (arith, count) in
            rw (same_line p inside) (every_out _ n e (1 + p) (omega arith, omega arith))),
      )
      ((λ e. e), λ e. e)
