-- What the readers of a desk's fields need of the memory, and what the bytes of a line say.
use Rattle.std.specs.Prelude.{◌≤◌, ◌≡◌}
use Rattle.integers.specs.Basics.{ℕ, true, List, Option, Some, length}
use Rattle.limits.specs.declared.lines.Line.{Line}
use Rattle.limits.specs.declared.lines.GroupLine.{GroupLine}
use Rattle.limits.specs.Lines.{is_set}
use Rattle.limits.specs.InBytes.{line_at, group_line_at}
use Rattle.book.specs.declared.market.Market.{Market}
use Rattle.memory_layout.specs.View.{market_of, roster_of}

-- long enough, with a roster whose sizes are within their limits
pub record Readable (m : List ℕ) : Type 0 where
  pub long : 65536 ≤ length m
  pub accounts : (roster_of m).accounts ≤ 16
  pub groups : (roster_of m).groups ≤ 4
  pub contracts : (roster_of m).contracts ≤ 8
  pub instruments : (roster_of m).instruments ≤ 32

-- what is handed on by value is what the memory's market says
abbrev pub MarketOf : List ℕ → Market → Type 0
MarketOf m market = market.largest ≡ (market_of m).largest

-- the bytes hold the line, where it is set
pub record HoldsLine (bytes : List ℕ) (l : Option Line) : Type 0 where
  pub line : is_set l ≡ true → l ≡ Some (line_at bytes 0)

-- and a group's line
pub record HoldsGroupLine (bytes : List ℕ) (l : Option GroupLine) : Type 0 where
  pub line : is_set l ≡ true → l ≡ Some (group_line_at bytes 0)
