-- Which words a field of the view is made of: memories with those words in common have the field in common.
use Rattle.std.specs.Prelude.{◌+◌, ◌*◌, ◌≤◌, ◌<◌, ◌≡◌}
use Rattle.integers.specs.Basics.{ℕ, refl, ◌∙◌, sym, ap, Bool, false, not, cond, List, Option, None, Some, ℤ, pos}
use Rattle.integers.specs.Basics.{eqb, length, arith}
use Rattle.integers.specs.TwosComplement.{signed_of}
use Rattle.words.specs.Words.{word_at, signed_at}
use Rattle.ledger.specs.Roster.{Numbered}
use Rattle.limits.specs.declared.lines.Line.{Line}
use Rattle.limits.specs.declared.lines.GroupLine.{GroupLine}
use Rattle.limits.specs.Lines.{Lines}
use Rattle.limits.specs.InBytes.{line_at, group_line_at}
use Rattle.book.specs.Books.{Blocks}
use Rattle.memory_layout.specs.Layout.{count_word, first_word, mark_word, account_block_word, instrument_block_word, group_block_row}
use Rattle.memory_layout.specs.Layout.{balance_row, own_set_row, default_set_row, group_set_row, own_row, default_row, group_row}
use Rattle.memory_layout.specs.View.{roster_of, flag, lines_of, balances_of, blocks_of, first_of, open_orders, trading_of}
use Rattle.memory_layout.specs.Stores.{orders_in, records_in}
use Rattle.memory_layout.proofs.RosterLaws.{Sized}
use Rattle.memory_layout.proofs.GuardedTables.{table_of, table_same, row_of, row_same, same_blocks}
use Rattle.memory_layout.proofs.OrderRecords.{same_records, open_records}

-- words low to high − 1 are the same
abbrev pub Same : ℕ → ℕ → List ℕ → List ℕ → Type 0
Same low high l m = (k : ℕ) → low ≤ k → k < high → word_at l k ≡ word_at m k

-- a memory that is long enough and holds a roster of sizes within their limits and at most 256 orders, whose records stand inside their
-- region
pub record InBounds (m : List ℕ) : Type 0 where
  pub long : 65536 ≤ length m
  pub sized : Sized (roster_of m)
  pub count : word_at m count_word ≤ 256
  pub first : first_of m ≤ 256

-- ---- the tables, as the words say them
abbrev pub balance_at : List ℕ → ℕ → ℕ → ℤ
balance_at m a i = signed_at m (balance_row a + i)

abbrev pub group_block_at : List ℕ → ℕ → ℕ → Bool
group_block_at m a g = flag m (group_block_row a + g)

abbrev pub field_own : List ℕ → ℕ → ℕ → Option Line
field_own m a i = cond (flag m (own_set_row a + i)) (Some (line_at m (own_row a + i * 2))) None

abbrev pub default_at : List ℕ → ℕ → ℕ → Option Line
default_at m a c = cond (flag m (default_set_row a + c)) (Some (line_at m (default_row a + c * 2))) None

abbrev pub of_group_at : List ℕ → ℕ → ℕ → Option GroupLine
of_group_at m a g = cond (flag m (group_set_row a + g)) (Some (group_line_at m (group_row a + g))) None

abbrev pub lines_by : (ℕ → ℕ → Option Line) → (ℕ → ℕ → Option Line) → (ℕ → ℕ → Option GroupLine) → ℕ → Lines
lines_by own default of_group a = record { own_of = own a; default_of = default a; line_of_group = of_group a }

abbrev pub blocks_by : (ℕ → Bool) → (ℕ → Bool) → (ℕ → ℕ → Bool) → Blocks
blocks_by account instrument group = record { account = account; instrument = instrument; group = group }

-- ---- the same words say the same
pub same_flag : (l m : List ℕ) (k : ℕ) → word_at l k ≡ word_at m k → flag l k ≡ flag m k
same_flag l m k e = ap (λ n. not (eqb n 0)) e

-- a line, set or not
pub same_own : (l m : List ℕ) (s k : ℕ) → word_at l s ≡ word_at m s → Same k (k + 2) l m
    → ◌≡◌ {A = Option Line} (cond (flag l s) (Some (line_at l k)) None) (cond (flag m s) (Some (line_at m k)) None)
unfolding line_at
same_own l m s k e same =
    rw (same_flag l m s e, same k (omega arith) (omega arith), same (k + 1) (omega arith) (omega arith))

pub same_of_group : (l m : List ℕ) (s k : ℕ) → word_at l s ≡ word_at m s → word_at l k ≡ word_at m k
    → ◌≡◌ {A = Option GroupLine} (cond (flag l s) (Some (group_line_at l k)) None) (cond (flag m s) (Some (group_line_at m k)) None)
unfolding group_line_at
same_of_group l m s k e same = rw (same_flag l m s e, same)

-- ---- the fields
module _ (l m : List ℕ) (held : InBounds m) (roster : roster_of l ≡ roster_of m) where
  pub balances_same : Same 256 768 l m → balances_of l ≡ balances_of m
  unfolding balances_of signed_at
  balances_same same =
      let sized = held.sized in
      ap (λ r. table_of r.accounts r.instruments (pos 0) (balance_at l)) roster
      ∙ table_same (roster_of m).accounts (roster_of m).instruments (pos 0) (balance_at m) (balance_at l)
      (λ a i on_a on_i. ap (signed_of 64) (same (balance_row a + i) (omega arith) (omega arith)))

  pub own_same : Same 768 1280 l m → ((a i : ℕ) → Numbered (roster_of m).accounts a → Numbered (roster_of m).instruments i
      → Same (own_row a + i * 2) (own_row a + i * 2 + 2) l m)
      → table_of (roster_of m).accounts (roster_of m).instruments None (field_own l) ≡ table_of (roster_of m).accounts
      (roster_of m).instruments None (field_own m)
  own_same sets figures =
      let sized = held.sized in
      table_same (roster_of m).accounts (roster_of m).instruments None (field_own m) (field_own l)
      (λ a i on_a on_i. same_own l m (own_set_row a + i) (own_row a + i * 2) (sets (own_set_row a + i) (omega arith) (omega arith))
      (figures a i on_a on_i))

  pub default_same : Same 1280 1408 l m → ((a c : ℕ) → Numbered (roster_of m).accounts a → Numbered (roster_of m).contracts c
      → Same (default_row a + c * 2) (default_row a + c * 2 + 2) l m)
      → table_of (roster_of m).accounts (roster_of m).contracts None (default_at l) ≡ table_of (roster_of m).accounts
      (roster_of m).contracts None (default_at m)
  default_same sets figures =
      let sized = held.sized in
      table_same (roster_of m).accounts (roster_of m).contracts None (default_at m) (default_at l)
      (λ a c on_a on_c. same_own l m (default_set_row a + c) (default_row a + c * 2)
      (sets (default_set_row a + c) (omega arith) (omega arith))
      (figures a c on_a on_c))

  pub of_group_same : Same 1408 1472 l m → ((a g : ℕ) → Numbered (roster_of m).accounts a → Numbered (roster_of m).groups g
      → word_at l (group_row a + g) ≡ word_at m (group_row a + g))
      → table_of (roster_of m).accounts (roster_of m).groups None (of_group_at l)
      ≡ table_of (roster_of m).accounts (roster_of m).groups None
      (of_group_at m)
  of_group_same sets figures =
      let sized = held.sized in
      table_same (roster_of m).accounts (roster_of m).groups None (of_group_at m) (of_group_at l)
      (λ a g on_a on_g. same_of_group l m (group_set_row a + g) (group_row a + g) (sets (group_set_row a + g) (omega arith) (omega arith))
      (figures a g on_a on_g))

  -- the lines, from their three tables
  pub lines_are : lines_of l ≡ (λ a. lines_by (table_of (roster_of m).accounts (roster_of m).instruments None (field_own l))
      (table_of (roster_of m).accounts (roster_of m).contracts None (default_at l))
      (table_of (roster_of m).accounts (roster_of m).groups None (of_group_at l)) a)
  unfolding lines_of
  lines_are =
      ap (λ r a. lines_by (table_of r.accounts r.instruments None (field_own l)) (table_of r.accounts r.contracts None (default_at l))
      (table_of r.accounts r.groups None (of_group_at l)) a) roster

  pub account_blocks_same : Same 144 160 l m
      → row_of (roster_of m).accounts (λ a. flag l (account_block_word a))
      ≡ row_of (roster_of m).accounts (λ a. flag m (account_block_word a))
  account_blocks_same same =
      let sized = held.sized in
      row_same (roster_of m).accounts (λ a. flag m (account_block_word a)) (λ a. flag l (account_block_word a))
      (λ a on_a. same_flag l m (account_block_word a) (same (account_block_word a) (omega arith) (omega arith)))

  pub instrument_blocks_same : Same 160 192 l m
      → row_of (roster_of m).instruments (λ i. flag l (instrument_block_word i)) ≡ row_of (roster_of m).instruments
      (λ i. flag m (instrument_block_word i))
  instrument_blocks_same same =
      let sized = held.sized in
      row_same (roster_of m).instruments (λ i. flag m (instrument_block_word i)) (λ i. flag l (instrument_block_word i))
      (λ i on_i. same_flag l m (instrument_block_word i) (same (instrument_block_word i) (omega arith) (omega arith)))

  pub group_blocks_same : Same 192 256 l m → table_of (roster_of m).accounts (roster_of m).groups false (group_block_at l) ≡ table_of
      (roster_of m).accounts (roster_of m).groups false (group_block_at m)
  group_blocks_same same =
      let sized = held.sized in
      table_same (roster_of m).accounts (roster_of m).groups false (group_block_at m) (group_block_at l)
      (λ a g on_a on_g. same_flag l m (group_block_row a + g) (same (group_block_row a + g) (omega arith) (omega arith)))

  pub blocks_are : blocks_of l ≡ blocks_by (row_of (roster_of m).accounts (λ a. flag l (account_block_word a)))
      (row_of (roster_of m).instruments (λ i. flag l (instrument_block_word i)))
      (table_of (roster_of m).accounts (roster_of m).groups false (group_block_at l))
  unfolding blocks_of
  blocks_are =
      ap (λ r. blocks_by (row_of r.accounts (λ a. flag l (account_block_word a)))
      (row_of r.instruments (λ i. flag l (instrument_block_word i))) (table_of r.accounts r.groups false (group_block_at l))) roster

  pub marks_are : trading_of l ≡ row_of (roster_of m).accounts (λ a. flag l (mark_word a))
  unfolding trading_of
  marks_are = ap (λ r. row_of r.accounts (λ a. flag l (mark_word a))) roster

  pub orders_same : word_at l count_word ≡ word_at m count_word → word_at l first_word ≡ word_at m first_word → Same 4224 5248 l m
      → open_orders l ≡ open_orders m
  unfolding open_orders
  orders_same count first same =
      let n : ℕ = word_at m count_word in
      let few : n ≤ 256 = held.count in
      let inside : first_of m ≤ 256 = held.first in
      ap (orders_in l 0) count
      ∙ open_records l (omega (arith, first)) n 0 (omega arith)
      ∙ ap (λ f. records_in l (f + 0) n) first
      ∙ same_records l m n (first_of m + 0) (omega arith) (λ j low high. same j (omega arith) (omega arith))
      ∙ sym (open_records m inside n 0 (omega arith))

-- ---- what memories that have the other words in common have in common
module _ (l m : List ℕ) (held : InBounds m) (roster : roster_of l ≡ roster_of m) where
  pub lines_same : Same 768 1472 l m → Same 1536 2880 l m → lines_of l ≡ lines_of m
  lines_same sets figures =
      let sized = held.sized in
      lines_are l m held roster
      ∙ rw (
        own_same l m held roster (λ k low high. sets k (omega arith) (omega arith))
            (λ a i on_a on_i k low high. figures k (omega arith) (omega arith)),
        default_same l m held roster (λ k low high. sets k (omega arith) (omega arith))
            (λ a c on_a on_c k low high. figures k (omega arith) (omega arith)),
        of_group_same l m held roster (λ k low high. sets k (omega arith) (omega arith))
            (λ a g on_a on_g. figures (group_row a + g) (omega arith) (omega arith)),
      )
      (sym (lines_are m m held refl))

  pub blocks_same : Same 144 256 l m → blocks_of l ≡ blocks_of m
  blocks_same same =
      blocks_are l m held roster
      ∙ same_blocks _ _ _ _ _ _
      (account_blocks_same l m held roster (λ k low high. same k (omega arith) (omega arith)))
      (instrument_blocks_same l m held roster (λ k low high. same k (omega arith) (omega arith)))
      (group_blocks_same l m held roster (λ k low high. same k (omega arith) (omega arith)))
      ∙ sym (blocks_are m m held refl)

  pub marks_same : Same 128 144 l m → trading_of l ≡ trading_of m
  marks_same same =
      let sized = held.sized in
      marks_are l m held roster
      ∙ row_same (roster_of m).accounts (λ a. flag m (mark_word a)) (λ a. flag l (mark_word a))
      (λ a on_a. same_flag l m (mark_word a) (same (mark_word a) (omega arith) (omega arith)))
      ∙ sym (marks_are m m held refl)
