-- Laws of lines in lent bytes: a side's figure, the part that holds the line in force, and which lines are set.
use Rattle.std.specs.Prelude.{◌+◌, ◌*◌, ◌^◌, ◌≤◌, ◌<◌, ◌≡◌}
use Rattle.integers.specs.Basics.{ℕ, refl, ◌∙◌, Bool, true, false, cond, false≢true, List, None, Some, length}
use Rattle.integers.specs.Basics.{arith}
use native.Mathlib.Nat.{add-zero}
use Rattle.words.specs.Bytes.{Bytes}
use Rattle.words.specs.Fields.{u32_at}
use Rattle.words.specs.Words.{word_at, part_of}
use Rattle.words.proofs.HalfWords.{lower_field, upper_field}
use Rattle.words.proofs.Parts.{length_part, word_part}
use Rattle.ledger.specs.declared.order.Side.{Side}
use Rattle.ledger.specs.declared.order.Side.TheVariants.{Buy, Sell}
use Rattle.ledger.specs.Roster.{Roster}
use Rattle.ledger.specs.Positions.{way_of}
use Rattle.ledger.proofs.Ways.{by_test}
use Rattle.limits.specs.declared.lines.Line.{Line}
use Rattle.limits.specs.Lines.{Lines, largest_order, largest_position, largest_of_group, or_else, line_in_force, is_set}
use Rattle.limits.specs.InBytes.{line_at, group_line_at, half_of, side_byte, says_set, where_set, lines_in, line_part}

-- ---- a side's figure
pub half_field : (m : List ℕ) (k : ℕ) → Bytes m → (s : Side) → u32_at m (k * 8 + side_byte s) ≡ half_of s (word_at m k)
half_field m k bytes Buy = rw add-zero (lower_field m k bytes)
half_field m k bytes Sell = upper_field m k bytes

module _ (m : List ℕ) where
  pub order_figure : (s : Side) → half_of s (word_at m 0) ≡ largest_order s (line_at m 0)
  unfolding line_at
  order_figure Buy = refl
  order_figure Sell = refl

  pub position_figure : (s : Side) → half_of s (word_at m 1) ≡ largest_position (way_of s) (line_at m 0)
  unfolding line_at
  position_figure Buy = refl
  position_figure Sell = refl

  pub group_figure : (s : Side) → half_of s (word_at m 0) ≡ largest_of_group (way_of s) (group_line_at m 0)
  unfolding group_line_at
  group_figure Buy = refl
  group_figure Sell = refl

-- ---- a part that holds one line
module _ (m : List ℕ) (k : ℕ) where
  first_in_part : (n : ℕ) → 0 < n → word_at (part_of m k n) 0 ≡ word_at m k
  first_in_part n h = word_part m k n 0 h ∙ rw (add-zero k)

  pub line_in_part : line_at (part_of m k 2) 0 ≡ line_at m k
  unfolding line_at
  line_in_part = rw (first_in_part 2 (omega arith), word_part m k 2 1 (omega arith))

-- ---- the part of the line in force
module _ (own default : List ℕ) (own_is_set : Bool) (i c : ℕ) (own_long : i * 16 + 16 ≤ length own)
    (default_long : c * 16 + 16 ≤ length default) where
  pub length_in_force : length (line_part own default own_is_set i c) ≡ 16
  unfolding line_part
  length_in_force =
      by_test own_is_set (λ t. rw t (length_part own (i * 2) 2 (omega arith)))
      (λ t. rw t (length_part default (c * 2) 2 (omega arith)))

-- what the prover reads lines by
pub ruleset lines_read = (order_figure, position_figure, group_figure, length_part)

-- ---- which lines are set
pub set_by_word : {A : Type 0} (w : ℕ) (l : A) → is_set (where_set w l) ≡ says_set w
unfolding where_set
set_by_word w l = by_test (says_set w) (λ t. rw t) (λ t. rw t)

-- the own line where it is set, else the default line
whole : (t u : Bool) (l d : Line) (x y : List ℕ) → line_at x 0 ≡ l → line_at y 0 ≡ d
    → is_set (or_else (cond t (Some l) None) (cond u (Some d) None)) ≡ true
    → or_else (cond t (Some l) None) (cond u (Some d) None) ≡ Some (line_at (cond t x y) 0)
whole true u l d x y e f h = rw e
whole false true l d x y e f h = rw f
whole false false l d x y e f h = absurd (false≢true h)

module _ (own own_set default default_set of_group group_set : List ℕ) where
  abbrev lines : Lines
  lines = lines_in own own_set default default_set of_group group_set

  -- the line in force, where it is set, stands in its part
  pub in_force : (r : Roster) (i : ℕ) → is_set (line_in_force r lines i) ≡ true
      → line_in_force r lines i ≡ Some (line_at (line_part own default (says_set (word_at own_set i)) i (r.contract_of i)) 0)
  unfolding lines_in line_in_force line_part where_set
  in_force r i =
      whole (says_set (word_at own_set i)) (says_set (word_at default_set (r.contract_of i))) _ _ _ _ (line_in_part own (i * 2))
      (line_in_part default (r.contract_of i * 2))

  -- the group's line, where it is set, stands in its part
  pub of_group_lem : (g : ℕ) → is_set (lines.line_of_group g) ≡ true → lines.line_of_group g ≡ Some (group_line_at (part_of of_group g 1) 0)
  unfolding lines_in group_line_at where_set
  of_group_lem g e =
      by_test (says_set (word_at group_set g)) (λ t. rw (t, first_in_part of_group g 1 (omega arith)))
      (λ t. absurd (false≢true (rw t at e)))
