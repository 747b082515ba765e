-- The stores of balances and marks: each changes that field of the view as the book has it, and nothing else.
use Rattle.std.specs.Prelude.{◌+◌, ◌≤◌, ◌<◌, ◌≡◌}
use Rattle.integers.specs.Basics.{ℕ, ◌∙◌, ap, true, List, ℤ, pos, w64, SFits, arith}
use Rattle.words.proofs.TwosComplement.{signed_put_same, signed_put_other}
use Rattle.ledger.specs.Roster.{Numbered}
use Rattle.book.specs.declared.Setting.TheVariants.{Balance}
use Rattle.book.specs.declared.Event.TheVariants.{Set}
use Rattle.book.specs.Books.{at, book_after}
use Rattle.book.specs.States.{mark, work}
use Rattle.memory_layout.specs.Layout.{kind_word, count_word, first_word, mark_word, balance_row}
use Rattle.memory_layout.specs.View.{market_of, roster_of, flag, lines_of, balances_of, blocks_of, open_orders, book_of, trading_of, view}
use Rattle.memory_layout.specs.FieldStores.{store_balance, store_mark}
use Rattle.memory_layout.proofs.RosterLaws.{roster_same}
use Rattle.memory_layout.proofs.MarketRead.{market_same}
use Rattle.memory_layout.proofs.GuardedTables.{table_of, table_at, row_at, same_view, state_of}
use Rattle.memory_layout.proofs.SameFields.{InBounds, balance_at, same_flag, balances_same, lines_same, blocks_same, marks_same}
use Rattle.memory_layout.proofs.SameFields.{orders_same, marks_are}
use Rattle.memory_layout.proofs.StoreWords.{Except, except_put, except_signed, except_same, flag_bit}

-- ---- a memory that differs in one word, at 128 or later and before the lines
module _ (l m : List ℕ) (held : InBounds m) (j : ℕ) (others : Except j l m) (from : 128 ≤ j) (below : j < 768) where
  pub one_roster : roster_of l ≡ roster_of m
  one_roster = roster_same l m held.sized (except_same l m j 1 77 others (λ low high. omega arith))

  pub one_market : market_of l ≡ market_of m
  one_market = market_same l m (others kind_word (λ e. omega arith))

  pub one_lines : lines_of l ≡ lines_of m
  one_lines =
      lines_same l m held one_roster (except_same l m j 768 1472 others (λ low high. omega arith))
      (except_same l m j 1536 2880 others (λ low high. omega arith))

  pub one_orders : open_orders l ≡ open_orders m
  one_orders =
      orders_same l m held one_roster (others count_word (λ e. omega arith)) (others first_word (λ e. omega arith))
      (except_same l m j 4224 5248 others (λ low high. omega arith))

-- ---- a balance
module _ (m : List ℕ) (held : InBounds m) (a i : ℕ) (z : ℤ) (on_a : Numbered (roster_of m).accounts a)
    (on_i : Numbered (roster_of m).instruments i) (fits : SFits w64 z) where
  abbrev balanced : List ℕ
  balanced = store_balance m a i z

  balance_word : (128 ≤ balance_row a + i) × (256 ≤ balance_row a + i) × (balance_row a + i < 768)
  balance_word = let sized = held.sized in omega arith

  pub roster_balance : roster_of balanced ≡ roster_of m
  roster_balance = one_roster balanced m held (balance_row a + i) (except_signed m (balance_row a + i) z) balance_word.0 balance_word.2

  balances_stored : balances_of balanced ≡ at a (at i z (balances_of m a)) (balances_of m)
  unfolding balances_of
  balances_stored =
      let sized = held.sized in
      ap (λ r. table_of r.accounts r.instruments (pos 0) (balance_at balanced)) roster_balance
      ∙ table_at (roster_of m).accounts (roster_of m).instruments (pos 0) (balance_at m) (balance_at balanced) a i z on_a on_i
      (signed_put_same m (balance_row a + i) z (omega (arith, held.long)) fits)
      (λ b k on_b on_k apart. signed_put_other m (balance_row a + i) z (balance_row b + k) (λ e. apart (omega arith) (omega arith)))

  pub view_balance : view balanced ≡ work (view m) (Set (Balance a i z))
  unfolding book_of book_after mark
  view_balance =
      let j : ℕ = balance_row a + i in
      let others : Except j balanced m = except_signed m j z in
      let in_place = balance_word in
      same_view (one_market balanced m held j others balance_word.0 balance_word.2) roster_balance balances_stored
      (one_lines balanced m held j others balance_word.0 balance_word.2)
      (blocks_same balanced m held roster_balance (except_same balanced m j 144 256 others (λ low high. omega arith)))
      (one_orders balanced m held j others balance_word.0 balance_word.2)
      (marks_same balanced m held roster_balance (except_same balanced m j 128 144 others (λ low high. omega arith)))

-- ---- a mark
module _ (m : List ℕ) (held : InBounds m) (a : ℕ) (on_a : Numbered (roster_of m).accounts a) where
  abbrev marked : List ℕ
  marked = store_mark m a

  mark_word_lem : (128 ≤ mark_word a) × (mark_word a < 768) × (mark_word a < 144)
  mark_word_lem = let sized = held.sized in omega arith

  pub roster_mark : roster_of marked ≡ roster_of m
  roster_mark = one_roster marked m held (mark_word a) (except_put m (mark_word a) 1) mark_word_lem.0 mark_word_lem.1

  marks_stored : trading_of marked ≡ at a true (trading_of m)
  unfolding trading_of
  marks_stored =
      let in_place = mark_word_lem in
      marks_are marked m held roster_mark
      ∙ row_at (roster_of m).accounts (λ b. flag m (mark_word b)) (λ b. flag marked (mark_word b)) a true on_a
      (flag_bit m (mark_word a) true (omega (arith, held.long)))
      (λ b on_b other. same_flag marked m (mark_word b) (except_put m (mark_word a) 1 (mark_word b) (λ e. other (omega arith))))

  pub view_mark : view marked ≡ state_of (market_of m) (roster_of m) (balances_of m) (lines_of m) (blocks_of m) (open_orders m)
      (at a true (trading_of m))
  unfolding book_of
  view_mark =
      let j : ℕ = mark_word a in
      let others : Except j marked m = except_put m j 1 in
      let in_place = mark_word_lem in
      same_view (one_market marked m held j others mark_word_lem.0 mark_word_lem.1) roster_mark
      (balances_same marked m held roster_mark (except_same marked m j 256 768 others (λ low high. omega arith)))
      (one_lines marked m held j others mark_word_lem.0 mark_word_lem.1)
      (blocks_same marked m held roster_mark (except_same marked m j 144 256 others (λ low high. omega arith)))
      (one_orders marked m held j others mark_word_lem.0 mark_word_lem.1)
      marks_stored
