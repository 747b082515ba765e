-- Lines in lent bytes: two words for a line, one for a group's, and a word of its own that says whether a line is set.
use Rattle.std.specs.Prelude.{◌+◌, ◌*◌}
use Rattle.integers.specs.Basics.{ℕ, Bool, not, cond, List, Option, None, Some, eqb}
use Rattle.words.specs.Words.{word_at, lower, upper, part_of}
use Rattle.ledger.specs.declared.order.Side.{Side}
use Rattle.ledger.specs.declared.order.Side.TheVariants.{Buy, Sell}
use Rattle.limits.specs.declared.lines.Line.{Line}
use Rattle.limits.specs.declared.lines.GroupLine.{GroupLine}
use Rattle.limits.specs.Lines.{Lines}

-- two figures to a word, of 32 bits each: the buy's or long one in the lower half, the sell's or short one in the upper.
-- The line in words k and k + 1, and the group line in word k
unfoldable pub line_at : List ℕ → ℕ → Line
line_at m k =
    record {
      tci = lower (word_at m k);
      tvi = upper (word_at m k);
      lci = lower (word_at m (k + 1));
      lvi = upper (word_at m (k + 1));
    }

unfoldable pub group_line_at : List ℕ → ℕ → GroupLine
group_line_at m k = record { lcc = lower (word_at m k); lvc = upper (word_at m k) }

-- a side's figure in a word, and the first byte that holds it
abbrev pub half_of : Side → ℕ → ℕ
half_of Buy w = lower w
half_of Sell w = upper w

abbrev pub side_byte : Side → ℕ
side_byte Buy = 0
side_byte Sell = 4

-- a line is set where its set word is not 0; a line of zeros may be set
unfoldable pub says_set : ℕ → Bool
says_set w = not (eqb w 0)

unfoldable pub where_set : {A : Type 0} → ℕ → A → Option A
where_set w l = cond (says_set w) (Some l) None

-- the lines of one account: own line i, default line c and group line g, each with word i, c or g of its own set words.
-- Numbers begin at 1: the words of number 0 are never read
unfoldable pub lines_in : List ℕ → List ℕ → List ℕ → List ℕ → List ℕ → List ℕ → Lines
lines_in own own_set default default_set of_group group_set =
    record {
      own_of = λ i. where_set (word_at own_set i) (line_at own (i * 2));
      default_of = λ c. where_set (word_at default_set c) (line_at default (c * 2));
      line_of_group = λ g. where_set (word_at group_set g) (group_line_at of_group g);
    }

-- the bytes of the line in force of instrument i of contract c: the own line's where it is set, else the default line's, whole
unfoldable pub line_part : List ℕ → List ℕ → Bool → ℕ → ℕ → List ℕ
line_part own default own_is_set i c = cond own_is_set (part_of own (i * 2) 2) (part_of default (c * 2) 2)
