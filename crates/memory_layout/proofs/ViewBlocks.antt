-- The stores of blocks: each changes that block of the view as the book has it, and nothing else.
use Rattle.std.specs.Prelude.{◌+◌, ◌≤◌, ◌<◌, ◌≡◌}
use Rattle.integers.specs.Basics.{ℕ, refl, ◌∙◌, Bool, false, not, List, ℤ, arith}
use Rattle.words.specs.Words.{put_word}
use Rattle.ledger.specs.Roster.{Numbered}
use Rattle.limits.specs.Asked.{is_zero}
use Rattle.book.specs.declared.Setting.TheVariants.{Block}
use Rattle.book.specs.declared.Event.TheVariants.{Set}
use Rattle.book.specs.declared.Blocked.{Blocked}
use Rattle.book.specs.declared.Blocked.TheVariants.{Account, Instrument, GroupFor}
use Rattle.book.specs.Books.{set_block, book_after}
use Rattle.book.specs.States.{mark, work}
use Rattle.memory_layout.specs.Layout.{account_block_word, instrument_block_word, group_block_row}
use Rattle.memory_layout.specs.View.{roster_of, flag, blocks_of, book_of, view}
use Rattle.memory_layout.specs.FieldStores.{bit, block_account, block_instrument, block_group}
use Rattle.memory_layout.proofs.GuardedTables.{table_of, table_at, row_of, row_at, same_blocks, same_view}
use Rattle.memory_layout.proofs.SameFields.{InBounds, group_block_at, blocks_by, same_flag, balances_same, marks_same}
use Rattle.memory_layout.proofs.SameFields.{account_blocks_same, instrument_blocks_same, group_blocks_same, blocks_are}
use Rattle.memory_layout.proofs.StoreWords.{Except, except_put, except_same, flag_bit}
use Rattle.memory_layout.proofs.ViewStores.{one_market, one_roster, one_lines, one_orders}

-- ---- a memory that differs in one word of the blocks
module _ (m : List ℕ) (held : InBounds m) (j v : ℕ) (from : 144 ≤ j) (below : j < 256) where
  abbrev put : List ℕ
  put = put_word m j v

  abbrev others : Except j put m
  others = except_put m j v

  block_roster : roster_of put ≡ roster_of m
  block_roster = one_roster put m held j others (omega arith) (omega arith)

  -- the rows and the table that the word is not in are as they were
  accounts_kept : 160 ≤ j → row_of (roster_of m).accounts (λ a. flag put (account_block_word a))
      ≡ row_of (roster_of m).accounts (λ a. flag m (account_block_word a))
  accounts_kept behind = account_blocks_same put m held block_roster (except_same put m j 144 160 others (λ low high. omega arith))

  instruments_kept : (160 ≤ j → j < 192 → ⊥)
      → row_of (roster_of m).instruments (λ i. flag put (instrument_block_word i))
      ≡ row_of (roster_of m).instruments (λ i. flag m (instrument_block_word i))
  instruments_kept outside = instrument_blocks_same put m held block_roster (except_same put m j 160 192 others outside)

  groups_kept : j < 192 → table_of (roster_of m).accounts (roster_of m).groups false (group_block_at put)
      ≡ table_of (roster_of m).accounts (roster_of m).groups false (group_block_at m)
  groups_kept before = group_blocks_same put m held block_roster (except_same put m j 192 256 others (λ low high. omega arith))

  -- the view, from what the rows and the table say
  block_view : (what : Blocked) (z : ℤ) {accounts instruments : ℕ → Bool} {groups : ℕ → ℕ → Bool}
      → row_of (roster_of m).accounts (λ a. flag put (account_block_word a)) ≡ accounts
      → row_of (roster_of m).instruments (λ i. flag put (instrument_block_word i)) ≡ instruments
      → table_of (roster_of m).accounts (roster_of m).groups false (group_block_at put) ≡ groups
      → blocks_by accounts instruments groups ≡ set_block what (not (is_zero z)) (blocks_of m)
      → view put ≡ work (view m) (Set (Block what z))
  unfolding book_of book_after mark
  block_view what z accounts instruments groups blocks =
      same_view (one_market put m held j others (omega arith) (omega arith)) block_roster
      (balances_same put m held block_roster (except_same put m j 256 768 others (λ low high. omega arith)))
      (one_lines put m held j others (omega arith) (omega arith))
      (blocks_are put m held block_roster ∙ same_blocks _ _ _ _ _ _ accounts instruments groups ∙ blocks)
      (one_orders put m held j others (omega arith) (omega arith))
      (marks_same put m held block_roster (except_same put m j 128 144 others (λ low high. omega arith)))

-- ---- the three levels
module _ (m : List ℕ) (held : InBounds m) (z : ℤ) where
  abbrev on : Bool
  on = not (is_zero z)

  pub view_block_account : (a : ℕ) → Numbered (roster_of m).accounts a
      → view (block_account m a on) ≡ work (view m) (Set (Block (Account a) z))
  unfolding blocks_of set_block
  view_block_account a on_a =
      let sized = held.sized in
      let j : ℕ = account_block_word a in
      block_view m held j (bit on) (omega arith) (omega arith) (Account a) z
      (row_at (roster_of m).accounts (λ b. flag m (account_block_word b))
      (λ b. flag (put_word m j (bit on)) (account_block_word b)) a on on_a
      (flag_bit m j on (omega (arith, held.long)))
      (λ b on_b other. same_flag (put_word m j (bit on)) m (account_block_word b)
      (except_put m j (bit on) (account_block_word b) (λ e. other (omega arith)))))
      (instruments_kept m held j (bit on) (omega arith) (omega arith) (λ low high. omega arith))
      (groups_kept m held j (bit on) (omega arith) (omega arith) (omega arith)) refl

  pub view_block_instrument : (i : ℕ) → Numbered (roster_of m).instruments i
      → view (block_instrument m i on) ≡ work (view m) (Set (Block (Instrument i) z))
  unfolding blocks_of set_block
  view_block_instrument i on_i =
      let sized = held.sized in
      let j : ℕ = instrument_block_word i in
      block_view m held j (bit on) (omega arith) (omega arith) (Instrument i) z
      (accounts_kept m held j (bit on) (omega arith) (omega arith) (omega arith))
      (row_at (roster_of m).instruments (λ b. flag m (instrument_block_word b))
      (λ b. flag (put_word m j (bit on)) (instrument_block_word b)) i
      on on_i
      (flag_bit m j on (omega (arith, held.long)))
      (λ b on_b other. same_flag (put_word m j (bit on)) m (instrument_block_word b)
      (except_put m j (bit on) (instrument_block_word b) (λ e. other (omega arith)))))
      (groups_kept m held j (bit on) (omega arith) (omega arith) (omega arith)) refl

  pub view_block_group : (a g : ℕ) → Numbered (roster_of m).accounts a → Numbered (roster_of m).groups g
      → view (block_group m a g on) ≡ work (view m) (Set (Block (GroupFor a g) z))
  unfolding blocks_of set_block
  view_block_group a g on_a on_g =
      let sized = held.sized in
      let j : ℕ = group_block_row a + g in
      block_view m held j (bit on) (omega arith) (omega arith) (GroupFor a g) z
      (accounts_kept m held j (bit on) (omega arith) (omega arith) (omega arith))
      (instruments_kept m held j (bit on) (omega arith) (omega arith) (λ low high. omega arith))
      (table_at (roster_of m).accounts (roster_of m).groups false (group_block_at m)
      (group_block_at (put_word m j (bit on))) a g on on_a on_g
      (flag_bit m j on (omega (arith, held.long)))
      (λ b k on_b on_k apart. same_flag (put_word m j (bit on)) m (group_block_row b + k)
      (except_put m j (bit on) (group_block_row b + k) (λ e. apart (omega arith) (omega arith)))))
      refl
