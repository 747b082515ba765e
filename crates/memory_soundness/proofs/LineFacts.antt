-- The lines' condition as facts, and back: the figures of every line on the roster are in range, and so those that are set.
use Rattle.std.specs.Prelude.{◌+◌, ◌*◌, ◌/◌, ◌<◌, ◌≡◌, ◌↔◌, ◌&&◌, IsTrue}
use Rattle.integers.specs.Basics.{ℕ, refl, ◌∙◌, ap, Bool, true, false, cond, List, None, Some, leb, length, arith, leb-true, le-leb}
use Rattle.words.specs.Bytes.{Bytes}
use Rattle.words.specs.Fields.{u32_at}
use Rattle.words.specs.Words.{lower, upper, part_of}
use Rattle.words.proofs.HalfWords.{lower_field, upper_field}
use Rattle.ledger.specs.Roster.{Numbered}
use Rattle.limits.specs.declared.lines.Line.{Line}
use Rattle.limits.specs.declared.lines.GroupLine.{GroupLine}
use Rattle.limits.specs.InBytes.{line_at, group_line_at}
use Rattle.limits.proofs.Answers.{both_true}
use Rattle.book.specs.Decoding.{between}
use Rattle.book.specs.Sound.{LineFits, GroupLineFits, LinesFit}
use Rattle.book.proofs.Tables.{between_numbered}
use Rattle.memory_layout.specs.Layout.{own_set_row, default_set_row, group_set_row}
use Rattle.memory_layout.specs.Rosters.{every}
use Rattle.memory_layout.specs.View.{market_of, roster_of, flag, on_roster, own_figures, default_figures, group_figures, own_lines, default_lines, group_lines, lines_row, lines_of}
use Rattle.memory_layout.specs.Readable.{Readable}
use Rattle.memory_layout.proofs.LinesInRows.{row_long, own_long, default_long, groups_long}
use Rattle.memory_layout.proofs.LinesInRows.{own_fits, default_fits, group_fits, own_figures_lem, default_figures_lem, group_figures_lem}
use Rattle.memory_soundness.specs.Soundness.{line_in_range, group_line_in_range, account_lines_sound, lines_sound}
use Rattle.memory_soundness.specs.SoundMemory.{Figures}
use Rattle.memory_soundness.proofs.Tables.{lines_told, table_told}
use Rattle.memory_layout.proofs.Every.{every_out, every_in, every_same}

-- ---- one line
pub line_out : (largest : ℕ) (l : Line) → line_in_range largest l ≡ true → LineFits largest l
unfolding line_in_range
line_out largest l e =
    let x = both_true (leb l.tci largest && leb l.tvi largest && leb l.lci largest) (leb l.lvi largest) e in
    let y = both_true (leb l.tci largest && leb l.tvi largest) (leb l.lci largest) x.0 in
    let z = both_true (leb l.tci largest) (leb l.tvi largest) y.0 in
    record {
      tci = leb-true l.tci largest z.0;
      tvi = leb-true l.tvi largest z.1;
      lci = leb-true l.lci largest y.1;
      lvi = leb-true l.lvi largest x.1;
    }

pub line_in : (largest : ℕ) (l : Line) → LineFits largest l → line_in_range largest l ≡ true
unfolding line_in_range
line_in largest l f =
    rw (le-leb l.tci largest f.tci, le-leb l.tvi largest f.tvi, le-leb l.lci largest f.lci)
    (le-leb l.lvi largest f.lvi)

pub group_line_out : (largest : ℕ) (l : GroupLine) → group_line_in_range largest l ≡ true → GroupLineFits largest l
unfolding group_line_in_range
group_line_out largest l e =
    let x = both_true (leb l.lcc largest) (leb l.lvc largest) e in
    record { lcc = leb-true l.lcc largest x.0; lvc = leb-true l.lvc largest x.1 }

pub group_line_in : (largest : ℕ) (l : GroupLine) → GroupLineFits largest l → group_line_in_range largest l ≡ true
unfolding group_line_in_range
group_line_in largest l f = rw (le-leb l.lcc largest f.lcc) (le-leb l.lvc largest f.lvc)

-- a word is in range where both its fields of 32 bits are
pub word_of_fields : (m : List ℕ) (k largest : ℕ) → Bytes m → group_line_in_range largest (group_line_at m k)
    ≡ (leb (u32_at m (k * 8)) largest && leb (u32_at m (k * 8 + 4)) largest)
unfolding group_line_in_range group_line_at
word_of_fields m k largest bytes = rw (lower_field m k bytes, upper_field m k bytes) refl

-- a line is in range where both its words are
pub line_of_words : (m : List ℕ) (k largest : ℕ) → line_in_range largest (line_at m k)
    ≡ (group_line_in_range largest (group_line_at m k) && group_line_in_range largest (group_line_at m (k + 1)))
unfolding line_in_range group_line_in_range line_at group_line_at
line_of_words m k largest = grind arith

-- ---- an account's lines, asked of the part from number 1 on of the rows that hold them: n is how many they are, and t the answer
module _ (m : List ℕ) (readable : Readable m) (a : ℕ) (on : Numbered (roster_of m).accounts a) (largest : ℕ)
    (most : largest ≡ (market_of m).largest) (t : Bool) (row : List ℕ) (n : ℕ) where
  pub own_row : row ≡ part_of (own_lines m a) 2 (n * 2) → n ≡ (roster_of m).instruments
      → IsTrue t ↔ ((p : ℕ) → p < length row / 16 → line_in_range largest (line_at row (p * 2)) ≡ true)
      → t ≡ every (roster_of m).instruments (λ i. line_in_range (market_of m).largest (own_figures m a i))
  own_row read size told =
      let long = own_long m readable a on in
      lines_told (own_lines m a) row n (omega (arith, long, size, readable.instruments)) read (line_in_range largest) t told
      ∙ rw (size, most) (every_same _ _ _ (λ i h. ap (line_in_range _) (own_figures_lem m readable a on i h)))

  pub default_row : row ≡ part_of (default_lines m a) 2 (n * 2) → n ≡ (roster_of m).contracts
      → IsTrue t ↔ ((p : ℕ) → p < length row / 16 → line_in_range largest (line_at row (p * 2)) ≡ true)
      → t ≡ every (roster_of m).contracts (λ i. line_in_range (market_of m).largest (default_figures m a i))
  default_row read size told =
      let long = default_long m readable a on in
      lines_told (default_lines m a) row n (omega (arith, long, size, readable.contracts)) read (line_in_range largest) t told
      ∙ rw (size, most) (every_same _ _ _ (λ i h. ap (line_in_range _) (default_figures_lem m readable a on i h)))

  pub group_row : row ≡ part_of (group_lines m a) 1 n → n ≡ (roster_of m).groups
      → IsTrue t ↔ ((p : ℕ) → p < length row / 8 → group_line_in_range largest (group_line_at row p) ≡ true)
      → t ≡ every (roster_of m).groups (λ i. group_line_in_range (market_of m).largest (group_figures m a i))
  unfolding group_line_at
  group_row read size told =
      let long = groups_long m readable a on in
      let test = λ (w : ℕ). group_line_in_range largest (record { lcc = lower w; lvc = upper w }) in
      table_told (group_lines m a) row n (omega (arith, long, size, readable.groups)) read test (λ w. test w ≡ true) (λ w e. e)
      (λ w e. e) t told
      ∙ rw (size, most) (every_same _ _ _ (λ i h. ap (group_line_in_range _) (group_figures_lem m readable a on i h)))

-- ---- every word of an account's row in range at once
pub row_within : (m : List ℕ) → Readable m → (a : ℕ) → Numbered (roster_of m).accounts a
    → ((j : ℕ) → j < 84 → GroupLineFits (market_of m).largest (group_line_at (lines_row m a) j)) → account_lines_sound m a ≡ true
unfolding account_lines_sound
row_within m readable a on fits =
    let r = roster_of m in
    rw (
      every_in (λ i. line_in_range (market_of m).largest (own_figures m a i)) r.instruments
          (λ i h. line_in _ _ (own_fits m readable a on _ fits i h)),
      every_in (λ c. line_in_range (market_of m).largest (default_figures m a c)) r.contracts
          (λ c h. line_in _ _ (default_fits m readable a on _ fits c h)),
    )
    (every_in (λ g. group_line_in_range (market_of m).largest (group_figures m a g)) r.groups
    (λ g h. group_line_in _ _ (group_fits m readable a on _ fits g h)))

-- what the test of an account reads
pub ruleset rows_read = (row_long, own_long, default_long, groups_long, row_within)

-- ---- all lines of the roster
module _ (m : List ℕ) where
  own_test : ℕ → ℕ → Bool
  own_test a i = line_in_range (market_of m).largest (own_figures m a i)

  default_test : ℕ → ℕ → Bool
  default_test a c = line_in_range (market_of m).largest (default_figures m a c)

  group_test : ℕ → ℕ → Bool
  group_test a g = group_line_in_range (market_of m).largest (group_figures m a g)

  -- the three rows of an account
  rows : lines_sound m ≡ true → (a : ℕ) → Numbered (roster_of m).accounts a → (every (roster_of m).instruments (own_test a) ≡ true)
      × (every (roster_of m).contracts (default_test a) ≡ true) × (every (roster_of m).groups (group_test a) ≡ true)
  unfolding lines_sound account_lines_sound own_test default_test group_test
  rows e a h =
      let x = both_true (every (roster_of m).instruments (own_test a) && every (roster_of m).contracts (default_test a))
      (every (roster_of m).groups (group_test a)) (every_out (account_lines_sound m) (roster_of m).accounts e a h) in
      let y = both_true (every (roster_of m).instruments (own_test a)) (every (roster_of m).contracts (default_test a)) x.0 in
      (y.0, y.1, x.1)

  pub figures_out : lines_sound m ≡ true → Figures m
  unfolding own_test default_test group_test
  figures_out e =
      record {
        own = λ a i h l. line_out _ (own_figures m a i) (every_out (own_test a) (roster_of m).instruments (rows e a h).0 i l);
        default =
            λ a c h l. line_out _ (default_figures m a c) (every_out (default_test a) (roster_of m).contracts (rows e a h).1 c l);
        of_group =
            λ a g h l. group_line_out _ (group_figures m a g) (every_out (group_test a) (roster_of m).groups (rows e a h).2 g l);
      }

  pub figures_in : Figures m → lines_sound m ≡ true
  unfolding lines_sound account_lines_sound own_test default_test group_test
  figures_in f =
      every_in (account_lines_sound m) (roster_of m).accounts
      (λ a h. rw (
        every_in (own_test a) (roster_of m).instruments (λ i l. line_in _ (own_figures m a i) (f.own a i h l)),
        every_in (default_test a) (roster_of m).contracts (λ c l. line_in _ (default_figures m a c) (f.default a c h l)),
      )
      (every_in (group_test a) (roster_of m).groups (λ g l. group_line_in _ (group_figures m a g) (f.of_group a g h l))))

  -- ---- those that are set
  set_on : {A : Type 0} (P : A → Type 0) (accounts numbers a n : ℕ) (t : Bool) (x l : A) → (Numbered accounts a → Numbered numbers n → P x)
      → on_roster accounts numbers a n (cond t (Some x) None) None ≡ Some l → P l
  set_on {A} P accounts numbers a n t x l fits e =
      by (between 1 accounts a && between 1 numbers n) t (λ d. let h = both_true (between 1 accounts a) (between 1 numbers n) d in
      fits (between_numbered accounts a h.0) (between_numbered numbers n h.1)) e
    where
      by : (u t : Bool) → (u ≡ true → P x) → cond u (cond t (Some x) None) None ≡ Some l → P l
      by true true f e = let same : l ≡ x = cc in rw same (f refl)
      by true false f e = absurd (let z : ◌≡◌ {A = ℕ} 0 1 = cc in omega arith)
      by false t f e = absurd (let z : ◌≡◌ {A = ℕ} 0 1 = cc in omega arith)

  pub lines_fit : Figures m → (a : ℕ) → LinesFit (market_of m).largest (lines_of m a)
  unfolding lines_of
  lines_fit f a =
      let r = roster_of m in
      record {
        own =
            λ i l. set_on (LineFits (market_of m).largest) r.accounts r.instruments a i (flag m (own_set_row a + i))
            (own_figures m a i) l (f.own a i);
        default =
            λ c l. set_on (LineFits (market_of m).largest) r.accounts r.contracts a c (flag m (default_set_row a + c))
            (default_figures m a c) l (f.default a c);
        of_group =
            λ g l. set_on (GroupLineFits (market_of m).largest) r.accounts r.groups a g (flag m (group_set_row a + g))
            (group_figures m a g) l (f.of_group a g);
      }
