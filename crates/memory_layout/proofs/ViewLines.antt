-- Memories that differ in words of the lines only, and the view's lines where those of one account are changed.
use Rattle.std.specs.Prelude.{◌≡◌}
use Rattle.integers.specs.Basics.{ℕ, ◌∙◌, ap, fun_ext, cond, List, Option, None, arith}
use Rattle.ledger.proofs.Ways.{by_number}
use Rattle.limits.specs.declared.lines.Line.{Line}
use Rattle.limits.specs.declared.lines.GroupLine.{GroupLine}
use Rattle.book.specs.declared.LimitLine.{LimitLine}
use Rattle.book.specs.declared.Setting.TheVariants.{Limit}
use Rattle.book.specs.declared.Event.TheVariants.{Set}
use Rattle.book.specs.Books.{at, set_line, book_after}
use Rattle.book.specs.States.{mark, work}
use Rattle.book.proofs.Tables.{at_here, at_elsewhere}
use Rattle.memory_layout.specs.Layout.{kind_word, count_word, first_word}
use Rattle.memory_layout.specs.View.{roster_of, lines_of, book_of, view}
use Rattle.memory_layout.proofs.RosterLaws.{roster_same}
use Rattle.memory_layout.proofs.MarketRead.{market_same}
use Rattle.memory_layout.proofs.GuardedTables.{table_of, same_lines, same_view}
use Rattle.memory_layout.proofs.SameFields.{Same, InBounds, field_own, default_at, of_group_at, lines_by, balances_same, blocks_same}
use Rattle.memory_layout.proofs.SameFields.{marks_same, orders_same, lines_are}

-- ---- a memory that differs in words of the lines only
module _ (l m : List ℕ) (held : InBounds m) (before : Same 0 768 l m) (after : Same 4224 5248 l m) where
  pub lines_roster : roster_of l ≡ roster_of m
  lines_roster = roster_same l m held.sized (λ k low high. before k (omega arith) (omega arith))

  pub lines_view : (a : ℕ) (line : LimitLine) → lines_of l ≡ at a (set_line line (lines_of m a)) (lines_of m)
      → view l ≡ work (view m) (Set (Limit a line))
  unfolding book_of book_after mark
  lines_view a line lines =
      same_view (market_same l m (before kind_word (omega arith) (omega arith))) lines_roster
      (balances_same l m held lines_roster (λ k low high. before k (omega arith) high))
      lines
      (blocks_same l m held lines_roster (λ k low high. before k (omega arith) (omega arith)))
      (orders_same l m held lines_roster (before count_word (omega arith) (omega arith)) (before first_word (omega arith) (omega arith))
      after)
      (marks_same l m held lines_roster (λ k low high. before k (omega arith) (omega arith)))

-- ---- the lines of one account changed
-- a table that is as it was has for account a what it had
pub unchanged : {A : Type 0} (a : ℕ) (old new : ℕ → A) → new ≡ old → new ≡ at a (old a) old
unchanged a old new same =
    fun_ext
    (λ b. by_number b a (λ t. new b ≡ cond t (old a) (old b)) (λ here. ap (λ t. t b) same ∙ ap old here) (λ other. ap (λ t. t b) same))

module _ (m : List ℕ) (held : InBounds m) (a : ℕ) where
  abbrev pub owns : List ℕ → ℕ → ℕ → Option Line
  owns l = table_of (roster_of m).accounts (roster_of m).instruments None (field_own l)

  abbrev pub defaults : List ℕ → ℕ → ℕ → Option Line
  defaults l = table_of (roster_of m).accounts (roster_of m).contracts None (default_at l)

  abbrev pub of_groups : List ℕ → ℕ → ℕ → Option GroupLine
  of_groups l = table_of (roster_of m).accounts (roster_of m).groups None (of_group_at l)

  pub lines_at : (l : List ℕ) → roster_of l ≡ roster_of m → (o d : ℕ → Option Line) (g : ℕ → Option GroupLine)
      → owns l ≡ at a o (owns m) → defaults l ≡ at a d (defaults m) → of_groups l ≡ at a g (of_groups m)
      → lines_of l ≡ at a (record { own_of = o; default_of = d; line_of_group = g }) (lines_of m)
  unfolding lines_of
  lines_at l roster o d g own default of_group =
      lines_are l m held roster
      ∙ fun_ext
      (λ b. by_number b a (λ t. lines_by (owns l) (defaults l) (of_groups l) b
      ≡ cond t (record { own_of = o; default_of = d; line_of_group = g })
      (lines_of m b))
      (λ same. same_lines _ _ _ _ _ _ (ap (λ t. t b) own ∙ at_here a o (owns m) b same)
      (ap (λ t. t b) default ∙ at_here a d (defaults m) b same) (ap (λ t. t b) of_group ∙ at_here a g (of_groups m) b same))
      (λ other. same_lines _ _ _ _ _ _ (ap (λ t. t b) own ∙ at_elsewhere a o (owns m) b other)
      (ap (λ t. t b) default ∙ at_elsewhere a d (defaults m) b other) (ap (λ t. t b) of_group ∙ at_elsewhere a g (of_groups m) b other)))
