-- The lines of an account, as the rows of its lines and set words hold them: what the readers of lines give.
use Rattle.std.specs.Prelude.{◌+◌, ◌*◌, ◌-◌, ◌≤◌, ◌<◌, ◌≡◌}
use Rattle.integers.specs.Basics.{ℕ, ◌∙◌, sym, ap, Bool, not, cond, List, None, Some, eqb, length, arith}
use native.Mathlib.Nat.{add_assoc}
use Rattle.words.specs.Words.{word_at, part_of}
use Rattle.words.proofs.Parts.{length_part, word_part}
use Rattle.ledger.specs.Roster.{Numbered}
use Rattle.limits.specs.Lines.{Lines, line_in_force, is_set}
use Rattle.limits.specs.InBytes.{line_at, group_line_at, says_set, where_set, lines_in, line_part}
use Rattle.limits.proofs.LinesRead.{set_by_word, in_force, of_group_lem}
use Rattle.book.specs.Sound.{LineFits, GroupLineFits}
use Rattle.memory_layout.specs.Layout.{own_set_row, default_set_row, group_set_row, own_row, default_row, group_row}
use Rattle.memory_layout.specs.View.{roster_of, flag, lines_of, own_figures, default_figures, group_figures}
use Rattle.memory_layout.specs.View.{lines_row, own_lines, default_lines, group_lines}
use Rattle.memory_layout.specs.Readable.{Readable, HoldsLine, HoldsGroupLine}
use Rattle.memory_layout.proofs.GuardedTables.{on_here}

-- the line in word j of the n words from word k on
module _ (m : List ℕ) (k n j : ℕ) where
  pub line_in_row : j + 2 ≤ n → line_at (part_of m k n) j ≡ line_at m (k + j)
  unfolding line_at
  line_in_row h = rw (word_part m k n j (omega arith), word_part m k n (j + 1) (omega arith), add_assoc k j 1)

  group_line_in_row : j < n → group_line_at (part_of m k n) j ≡ group_line_at m (k + j)
  unfolding group_line_at
  group_line_in_row h = rw (word_part m k n j h)

-- a line by its set word
by_word : {A : Type 0} (v w : ℕ) (l l' : A) → v ≡ w → l ≡ l' → cond (not (eqb v 0)) (Some l) None ≡ where_set w l'
unfolding where_set says_set
by_word v w l l' d e = rw (d, e)

abbrev rows_of : List ℕ → ℕ → Lines
rows_of m a =
    lines_in (own_lines m a) (part_of m (own_set_row a) 33) (default_lines m a) (part_of m (default_set_row a) 9) (group_lines m a)
    (part_of m (group_set_row a) 5)

module _ (m : List ℕ) (readable : Readable m) (a : ℕ) (on : Numbered (roster_of m).accounts a) where
  -- the figures of a line, in its row
  pub own_figures_lem : (i : ℕ) → Numbered (roster_of m).instruments i → line_at (own_lines m a) (i * 2) ≡ own_figures m a i
  own_figures_lem i l = line_in_row m (own_row a) 66 (i * 2) (omega (arith, readable.instruments))

  pub default_figures_lem : (c : ℕ) → Numbered (roster_of m).contracts c → line_at (default_lines m a) (c * 2) ≡ default_figures m a c
  default_figures_lem c l = line_in_row m (default_row a) 18 (c * 2) (omega (arith, readable.contracts))

  pub group_figures_lem : (g : ℕ) → Numbered (roster_of m).groups g → group_line_at (group_lines m a) g ≡ group_figures m a g
  group_figures_lem g l = group_line_in_row m (group_row a) 5 g (omega (arith, readable.groups))

  -- ---- a line, by its row and its set word
  own_in_row : (i : ℕ) → Numbered (roster_of m).instruments i → (lines_of m a).own_of i ≡ (rows_of m a).own_of i
  unfolding lines_of lines_in
  own_in_row i l =
      on_here (roster_of m).accounts (roster_of m).instruments a i _ None on l
      ∙ by_word (word_at m (own_set_row a + i)) (word_at (part_of m (own_set_row a) 33) i) (own_figures m a i)
      (line_at (own_lines m a) (i * 2))
      (sym (word_part m (own_set_row a) 33 i (omega (arith, readable.instruments)))) (sym (own_figures_lem i l))

  default_in_row : (c : ℕ) → Numbered (roster_of m).contracts c → (lines_of m a).default_of c ≡ (rows_of m a).default_of c
  unfolding lines_of lines_in
  default_in_row c l =
      on_here (roster_of m).accounts (roster_of m).contracts a c _ None on l
      ∙ by_word (word_at m (default_set_row a + c)) (word_at (part_of m (default_set_row a) 9) c) (default_figures m a c)
      (line_at (default_lines m a) (c * 2)) (sym (word_part m (default_set_row a) 9 c (omega (arith, readable.contracts))))
      (sym (default_figures_lem c l))

  group_in_row : (g : ℕ) → Numbered (roster_of m).groups g → (lines_of m a).line_of_group g ≡ (rows_of m a).line_of_group g
  unfolding lines_of lines_in
  group_in_row g l =
      on_here (roster_of m).accounts (roster_of m).groups a g _ None on l
      ∙ by_word (word_at m (group_set_row a + g)) (word_at (part_of m (group_set_row a) 5) g) (group_figures m a g)
      (group_line_at (group_lines m a) g) (sym (word_part m (group_set_row a) 5 g (omega (arith, readable.groups))))
      (sym (group_figures_lem g l))

  -- ---- whether a line is set
  own_by_word : (i : ℕ) → Numbered (roster_of m).instruments i
      → is_set ((lines_of m a).own_of i) ≡ says_set (word_at (part_of m (own_set_row a) 33) i)
  unfolding lines_in
  own_by_word i l = ap is_set (own_in_row i l) ∙ set_by_word (word_at (part_of m (own_set_row a) 33) i) (line_at (own_lines m a) (i * 2))

  pub own_set_lem : (i : ℕ) → Numbered (roster_of m).instruments i
      → is_set ((lines_of m a).own_of i) ≡ flag m (own_set_row a + i)
  unfolding says_set
  own_set_lem i l = own_by_word i l ∙ ap says_set (word_part m (own_set_row a) 33 i (omega (arith, readable.instruments)))

  pub default_set_lem : (c : ℕ) → Numbered (roster_of m).contracts c
      → is_set ((lines_of m a).default_of c) ≡ flag m (default_set_row a + c)
  unfolding lines_in says_set
  default_set_lem c l =
      ap is_set (default_in_row c l)
      ∙ set_by_word (word_at (part_of m (default_set_row a) 9) c) (line_at (default_lines m a) (c * 2))
      ∙ ap says_set (word_part m (default_set_row a) 9 c (omega (arith, readable.contracts)))

  pub group_set_lem : (g : ℕ) → Numbered (roster_of m).groups g
      → is_set ((lines_of m a).line_of_group g) ≡ flag m (group_set_row a + g)
  unfolding lines_in says_set
  group_set_lem g l =
      ap is_set (group_in_row g l)
      ∙ set_by_word (word_at (part_of m (group_set_row a) 5) g) (group_line_at (group_lines m a) g)
      ∙ ap says_set (word_part m (group_set_row a) 5 g (omega (arith, readable.groups)))

  -- ---- the bytes of a line
  pub row_long : length (lines_row m a) ≡ 672
  row_long = length_part m (own_row a + 2) 84 (omega (arith, readable.accounts, readable.long))

  pub own_long : length (own_lines m a) ≡ 528
  own_long = length_part m (own_row a) 66 (omega (arith, readable.accounts, readable.long))

  pub default_long : length (default_lines m a) ≡ 144
  default_long = length_part m (default_row a) 18 (omega (arith, readable.accounts, readable.long))

  pub groups_long : length (group_lines m a) ≡ 40
  groups_long = length_part m (group_row a) 5 (omega (arith, readable.accounts, readable.long))

  -- of the line in force, set being whether the own line is
  pub holds_line : (i c : ℕ) (set : Bool) → Numbered (roster_of m).instruments i → Numbered (roster_of m).contracts c
      → c ≡ (roster_of m).contract_of i → set ≡ is_set ((lines_of m a).own_of i)
      → HoldsLine (line_part (own_lines m a) (default_lines m a) set i c) (line_in_force (roster_of m) (lines_of m a) i)
  unfolding line_in_force
  holds_line i c set on_i on_c is same_set =
      let r = roster_of m in
      let same : line_in_force r (lines_of m a) i ≡ line_in_force r (rows_of m a) i =
      rw (own_in_row i on_i, default_in_row (r.contract_of i) (rw (← is) on_c)) in
      record { line = λ e. rw (same, same_set ∙ own_by_word i on_i, is) (in_force _ _ _ _ _ _ r i (rw same at e)) }

  pub holds_group_line : (g : ℕ) → Numbered (roster_of m).groups g
      → HoldsGroupLine (part_of (group_lines m a) g 1) ((lines_of m a).line_of_group g)
  holds_group_line g on_g =
      record { line = λ e. rw (group_in_row g on_g) (of_group_lem _ _ _ _ _ _ g (rw (group_in_row g on_g) at e)) }

  -- ---- all lines of the account at once, where every word of its row holds two figures in range
  module _ (most : ℕ) (fits : (j : ℕ) → j < 84 → GroupLineFits most (group_line_at (lines_row m a) j)) where
    word_fits : (k : ℕ) → own_row a + 2 ≤ k → k < own_row a + 86 → GroupLineFits most (group_line_at m k)
    word_fits k low high =
        let there : own_row a + 2 + (k - (own_row a + 2)) ≡ k = omega arith in
        rw (group_line_in_row m (own_row a + 2) 84 (k - (own_row a + 2)) (omega arith), there) at
        (fits (k - (own_row a + 2)) (omega arith))

    line_fits_lem : (k : ℕ) → own_row a + 2 ≤ k → k + 1 < own_row a + 86 → LineFits most (line_at m k)
    unfolding line_at group_line_at
    line_fits_lem k low high =
        let x = word_fits k low (omega arith) in
        let y = word_fits (k + 1) (omega arith) high in
        record { tci = x.lcc; tvi = x.lvc; lci = y.lcc; lvi = y.lvc }

    pub own_fits : (i : ℕ) → Numbered (roster_of m).instruments i → LineFits most (own_figures m a i)
    own_fits i l = line_fits_lem (own_row a + i * 2) (omega arith) (omega (arith, readable.instruments))

    pub default_fits : (c : ℕ) → Numbered (roster_of m).contracts c → LineFits most (default_figures m a c)
    default_fits c l = line_fits_lem (default_row a + c * 2) (omega arith) (omega (arith, readable.contracts))

    pub group_fits : (g : ℕ) → Numbered (roster_of m).groups g → GroupLineFits most (group_figures m a g)
    group_fits g l = word_fits (group_row a + g) (omega arith) (omega (arith, readable.groups))
