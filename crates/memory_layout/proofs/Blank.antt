-- A memory whose words behind the roster are 0 is a desk that has just begun.
use Rattle.std.specs.Prelude.{◌+◌, ◌*◌, ◌≤◌, ◌<◌, ◌≡◌, ◌&&◌}
use Rattle.integers.specs.Basics.{ℕ, refl, ◌∙◌, ap, fun_ext, Bool, true, false, not, cond, List, [], None}
use Rattle.integers.specs.Basics.{Some, pos, arith, eq-eqb}
use Rattle.integers.specs.TwosComplement.{signed_of, signed_small}
use Rattle.words.specs.Words.{word_at, signed_at}
use Rattle.ledger.specs.Roster.{Numbered}
use Rattle.ledger.specs.Records.{orders_from}
use Rattle.limits.specs.InBytes.{line_at, group_line_at}
use Rattle.book.specs.Decoding.{between}
use Rattle.book.specs.Books.{empty_book}
use Rattle.book.specs.States.{begun}
use Rattle.book.proofs.Tables.{between_numbered}
use Rattle.memory_layout.specs.Layout.{count_word, mark_word, account_block_word, instrument_block_word, group_block_row, balance_row}
use Rattle.memory_layout.specs.Layout.{own_set_row, default_set_row, group_set_row, own_row, default_row, group_row}
use Rattle.memory_layout.specs.View.{roster_of, flag, on_roster, lines_of, balances_of, blocks_of, open_orders, book_of, trading_of, market_of}
use Rattle.memory_layout.specs.View.{view}
use Rattle.memory_layout.proofs.RosterLaws.{Sized}
use Rattle.memory_layout.proofs.GuardedTables.{on_each, same_lines, same_blocks, same_view}

and_off : (t u : Bool) → (t ≡ true → u ≡ false) → t && u ≡ false
and_off true u f = f refl
and_off false u f = refl

module _ (m : List ℕ) (sized : Sized (roster_of m)) (zero : (k : ℕ) → 112 ≤ k → k < 4224 → word_at m k ≡ 0) where
  flag_off : (k : ℕ) → 112 ≤ k → k < 4224 → flag m k ≡ false
  flag_off k low high = ap not (eq-eqb (word_at m k) 0 (zero k low high))

  -- no line where its word is 0
  unset : {A : Type 0} (numbers a n k : ℕ) (x : A) → (Numbered (roster_of m).accounts a → Numbered numbers n → (112 ≤ k) × (k < 4224))
      → on_roster (roster_of m).accounts numbers a n (cond (flag m k) (Some x) None) None ≡ None
  unset numbers a n k x inside =
      on_each (roster_of m).accounts numbers a n (cond (flag m k) (Some x) None) None (λ l. l ≡ None)
      (λ on_a on_n. ap (λ t. cond t (Some x) None) (flag_off k (inside on_a on_n).0 (inside on_a on_n).1)) refl

  balances_blank : balances_of m ≡ (λ a i. pos 0)
  unfolding balances_of signed_at
  balances_blank =
      fun_ext
      (λ a. fun_ext (λ i. on_each (roster_of m).accounts (roster_of m).instruments a i (signed_at m (balance_row a + i)) (pos 0)
      (λ z. z ≡ pos 0)
      (λ on_a on_i. ap (signed_of 64) (zero (balance_row a + i) (omega arith) (omega arith)) ∙ signed_small 64 0 (omega arith)) refl))

  lines_blank : lines_of m ≡ empty_book.lines_of
  unfolding lines_of empty_book
  lines_blank =
      fun_ext
      (λ a. same_lines _ _ _ _ _ _
      (fun_ext (λ i. unset (roster_of m).instruments a i (own_set_row a + i) (line_at m (own_row a + i * 2)) (λ on_a on_i. omega arith)))
      (fun_ext (λ c. unset (roster_of m).contracts a c (default_set_row a + c) (line_at m (default_row a + c * 2))
      (λ on_a on_c. omega arith)))
      (fun_ext (λ g. unset (roster_of m).groups a g (group_set_row a + g) (group_line_at m (group_row a + g)) (λ on_a on_g. omega arith))))

  blocks_blank : blocks_of m ≡ empty_book.blocks
  unfolding blocks_of empty_book
  blocks_blank =
      same_blocks _ _ _ _ _ _
      (fun_ext (λ a. and_off (between 1 (roster_of m).accounts a) (flag m (account_block_word a))
      (λ e. let on_a = between_numbered (roster_of m).accounts a e in flag_off (account_block_word a) (omega arith) (omega arith))))
      (fun_ext (λ i. and_off (between 1 (roster_of m).instruments i) (flag m (instrument_block_word i))
      (λ e. let on_i = between_numbered (roster_of m).instruments i e in flag_off (instrument_block_word i) (omega arith) (omega arith))))
      (fun_ext (λ a. fun_ext (λ g. on_each (roster_of m).accounts (roster_of m).groups a g (flag m (group_block_row a + g)) false
      (λ t. t ≡ false)
      (λ on_a on_g. flag_off (group_block_row a + g) (omega arith) (omega arith)) refl)))

  marks_blank : trading_of m ≡ (λ a. false)
  unfolding trading_of
  marks_blank =
      fun_ext
      (λ a. and_off (between 1 (roster_of m).accounts a) (flag m (mark_word a))
      (λ e. let on_a = between_numbered (roster_of m).accounts a e in flag_off (mark_word a) (omega arith) (omega arith)))

  orders_blank : open_orders m ≡ []
  unfolding open_orders orders_from
  orders_blank = rw (zero count_word (omega arith) (omega arith))

  pub view_blank : view m ≡ begun (market_of m) (roster_of m)
  unfolding book_of empty_book
  view_blank = same_view refl refl balances_blank lines_blank blocks_blank orders_blank marks_blank
