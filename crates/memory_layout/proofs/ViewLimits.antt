-- The stores of lines: each changes that line of the view as the book has it, and nothing else.
use Rattle.std.specs.Prelude.{◌+◌, ◌*◌, ◌≤◌, ◌<◌, ◌≡◌, ◌≢◌}
use Rattle.integers.specs.Basics.{ℕ, List, None, ℤ, arith}
use Rattle.words.specs.Words.{word_at}
use Rattle.ledger.specs.Roster.{Numbered}
use Rattle.book.specs.declared.Figures.{Figures}
use Rattle.book.specs.declared.LimitLine.TheVariants.{Own, Default, OfGroup}
use Rattle.book.specs.declared.Setting.TheVariants.{Limit}
use Rattle.book.specs.declared.Event.TheVariants.{Set}
use Rattle.book.specs.Books.{at, line_of, group_line_of, set_line}
use Rattle.book.specs.States.{work}
use Rattle.memory_layout.specs.Layout.{own_set_row, default_set_row, group_set_row, own_row, default_row, group_row}
use Rattle.memory_layout.specs.View.{roster_of, lines_of, view}
use Rattle.memory_layout.specs.FieldStores.{store_own, store_default, store_of_group}
use Rattle.memory_layout.proofs.GuardedTables.{table_at}
use Rattle.memory_layout.proofs.SameFields.{Same, InBounds, field_own, default_at, of_group_at, same_own, same_of_group, own_same}
use Rattle.memory_layout.proofs.SameFields.{default_same, of_group_same}
use Rattle.memory_layout.proofs.StoreWords.{SmallLine, SmallGroupLine, line_elsewhere, line_back, group_line_elsewhere}
use Rattle.memory_layout.proofs.StoreWords.{group_line_back}
use Rattle.memory_layout.proofs.ViewLines.{lines_roster, lines_view, unchanged, owns, defaults, of_groups, lines_at}

-- ---- a memory that differs in one line
-- word s says whether it is set; its w words of figures from word k on are words of account a's row, which has 84 from its second on
record OneLine (l m : List ℕ) (a s k w : ℕ) : Type 0 where
  elsewhere : (j : ℕ) → j ≢ s → (k ≤ j → j < k + w → ⊥) → word_at l j ≡ word_at m j
  set : (768 ≤ s) × (s < 1472)
  row : (own_row a + 2 ≤ k) × (k + w ≤ own_row a + 86)
  account : Numbered 16 a

module _ (l m : List ℕ) (held : InBounds m) {a s k w : ℕ} (line : OneLine l m a s k w) where
  before : Same 0 768 l m
  before j low high = line.elsewhere j (λ e. omega arith) (λ b c. omega arith)

  after : Same 4224 5248 l m
  after j low high = line.elsewhere j (λ e. omega arith) (λ b c. omega arith)

  roster : roster_of l ≡ roster_of m
  roster = lines_roster l m held before after

  -- the tables of the other kinds of line are as they were
  own_kept : 1280 ≤ s → own_row a + 66 ≤ k → owns m held a l ≡ at a (owns m held a m a) (owns m held a m)
  own_kept behind after =
      let sized = held.sized in
      unchanged a _ _
      (own_same l m held roster (λ j low high. line.elsewhere j (λ e. omega arith) (λ b c. omega arith))
      (λ b i on_b on_i j low high. line.elsewhere j (λ e. omega arith) (λ d e. omega arith)))

  default_kept : (1280 ≤ s → s < 1408 → ⊥) → (own_row a + 66 < k + w → k < own_row a + 82 → ⊥)
      → defaults m held a l ≡ at a (defaults m held a m a) (defaults m held a m)
  default_kept other apart =
      let sized = held.sized in
      unchanged a _ _
      (default_same l m held roster
      (λ j low high. line.elsewhere j (λ e. other (omega arith) (omega arith)) (λ b c. omega arith))
      (λ b i on_b on_i j low high. line.elsewhere j (λ e. omega arith) (λ d e. apart (omega arith) (omega arith))))

  of_group_kept : s < 1408 → k + w ≤ own_row a + 82 → of_groups m held a l ≡ at a (of_groups m held a m a) (of_groups m held a m)
  of_group_kept below before =
      let sized = held.sized in
      unchanged a _ _
      (of_group_same l m held roster (λ j low high. line.elsewhere j (λ e. omega arith) (λ b c. omega arith))
      (λ b g on_b on_g. line.elsewhere (group_row b + g) (λ e. omega arith) (λ d e. omega arith)))

-- ---- an instrument's own line
module _ (m : List ℕ) (held : InBounds m) (a i : ℕ) (f : Figures) (small : SmallLine (line_of f))
    (on_a : Numbered (roster_of m).accounts a) (on_i : Numbered (roster_of m).instruments i) where
  abbrev own : List ℕ
  own = store_own m a i (line_of f)

  own_line : OneLine own m a (own_set_row a + i) (own_row a + i * 2) 2
  own_line =
      let sized = held.sized in
      record {
        set = omega arith;
        row = omega arith;
        account = omega arith;
        elsewhere = line_elsewhere m (own_set_row a + i) (own_row a + i * 2) (line_of f);
      }

  pub view_own : view own ≡ work (view m) (Set (Limit a (Own i f)))
  unfolding lines_of set_line
  view_own =
      let sized = held.sized in
      let word = own_line.elsewhere in
      lines_view own m held (before own m held own_line) (after own m held own_line) a (Own i f)
      (lines_at m held a own (roster own m held own_line) _ _ _
      (table_at (roster_of m).accounts (roster_of m).instruments None (field_own m) (field_own own) a i (line_of f) on_a on_i
      (line_back m (own_set_row a + i) (own_row a + i * 2) (line_of f) small (omega (arith, held.long)) (omega (arith, held.long))
      (λ b c. omega arith))
      (λ b k on_b on_k apart. same_own own m (own_set_row b + k) (own_row b + k * 2)
      (word (own_set_row b + k) (λ e. apart (omega arith) (omega arith)) (λ d e. omega arith))
      (λ j low high. word j (λ e. omega arith) (λ d e. apart (omega arith) (omega arith)))))
      (default_kept own m held own_line (λ b c. omega arith) (λ b c. omega arith))
      (of_group_kept own m held own_line (omega arith) (omega arith)))

-- ---- a contract's default line
module _ (m : List ℕ) (held : InBounds m) (a c : ℕ) (f : Figures) (small : SmallLine (line_of f))
    (on_a : Numbered (roster_of m).accounts a) (on_c : Numbered (roster_of m).contracts c) where
  abbrev default : List ℕ
  default = store_default m a c (line_of f)

  default_line_lem : OneLine default m a (default_set_row a + c) (default_row a + c * 2) 2
  default_line_lem =
      let sized = held.sized in
      record {
        set = omega arith;
        row = omega arith;
        account = omega arith;
        elsewhere = line_elsewhere m (default_set_row a + c) (default_row a + c * 2) (line_of f);
      }

  pub view_default : view default ≡ work (view m) (Set (Limit a (Default c f)))
  unfolding lines_of set_line
  view_default =
      let sized = held.sized in
      let word = default_line_lem.elsewhere in
      lines_view default m held (before default m held default_line_lem) (after default m held default_line_lem) a (Default c f)
      (lines_at m held a default (roster default m held default_line_lem) _ _ _
      (own_kept default m held default_line_lem (omega arith) (omega arith))
      (table_at (roster_of m).accounts (roster_of m).contracts None (default_at m) (default_at default) a c (line_of f) on_a on_c
      (line_back m (default_set_row a + c) (default_row a + c * 2) (line_of f) small (omega (arith, held.long)) (omega (arith, held.long))
      (λ b c. omega arith))
      (λ b k on_b on_k apart. same_own default m (default_set_row b + k) (default_row b + k * 2)
      (word (default_set_row b + k) (λ e. apart (omega arith) (omega arith)) (λ d e. omega arith))
      (λ j low high. word j (λ e. omega arith) (λ d e. apart (omega arith) (omega arith)))))
      (of_group_kept default m held default_line_lem (omega arith) (omega arith)))

-- ---- a group's line
module _ (m : List ℕ) (held : InBounds m) (a g : ℕ) (x y : ℤ) (small : SmallGroupLine (group_line_of x y))
    (on_a : Numbered (roster_of m).accounts a) (on_g : Numbered (roster_of m).groups g) where
  abbrev of_group_lem : List ℕ
  of_group_lem = store_of_group m a g (group_line_of x y)

  group_line_lem : OneLine of_group_lem m a (group_set_row a + g) (group_row a + g) 1
  group_line_lem =
      let sized = held.sized in
      record {
        set = omega arith;
        row = omega arith;
        account = omega arith;
        elsewhere = group_line_elsewhere m (group_set_row a + g) (group_row a + g) (group_line_of x y);
      }

  pub view_of_group : view of_group_lem ≡ work (view m) (Set (Limit a (OfGroup g x y)))
  unfolding lines_of set_line
  view_of_group =
      let sized = held.sized in
      let word = group_line_lem.elsewhere in
      lines_view of_group_lem m held (before of_group_lem m held group_line_lem) (after of_group_lem m held group_line_lem) a
      (OfGroup g x y)
      (lines_at m held a of_group_lem (roster of_group_lem m held group_line_lem) _ _ _
      (own_kept of_group_lem m held group_line_lem (omega arith) (omega arith))
      (default_kept of_group_lem m held group_line_lem (λ b c. omega arith) (λ b c. omega arith))
      (table_at (roster_of m).accounts (roster_of m).groups None (of_group_at m) (of_group_at of_group_lem) a g
      (group_line_of x y) on_a on_g
      (group_line_back m (group_set_row a + g) (group_row a + g) (group_line_of x y) small (omega (arith, held.long))
      (omega (arith, held.long)) (λ b c. omega arith))
      (λ b k on_b on_k apart. same_of_group of_group_lem m (group_set_row b + k) (group_row b + k)
      (word (group_set_row b + k) (λ e. apart (omega arith) (omega arith)) (λ d e. omega arith))
      (word (group_row b + k) (λ e. omega arith) (λ d e. apart (omega arith) (omega arith))))))
