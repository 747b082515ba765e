-- Document 01, "Limit lines", of one account.
use Rattle.std.specs.Prelude.{◌*ℤ◌}
use Rattle.integers.specs.Basics.{ℕ, Bool, true, false, Option, None, Some, ℤ, pos, negsuc}
use Rattle.ledger.specs.declared.order.Side.{Side}
use Rattle.ledger.specs.declared.order.Side.TheVariants.{Buy, Sell}
use Rattle.ledger.specs.Roster.{Roster}
use Rattle.ledger.specs.Positions.{Way, long, short, Scope, instrument, group}
use Rattle.limits.specs.declared.lines.Line.{Line}
use Rattle.limits.specs.declared.lines.GroupLine.{GroupLine}

-- the lines of an account, set or not: each instrument's own, each contract's default, each group's
pub record Lines : Type 0 where
  pub own_of : ℕ → Option Line
  pub default_of : ℕ → Option Line
  pub line_of_group : ℕ → Option GroupLine

-- the largest order on a side: TCI, TVI
abbrev pub largest_order : Side → Line → ℕ
largest_order Buy l = l.tci
largest_order Sell l = l.tvi

-- the largest position of an instrument on a side: LCI, LVI
abbrev pub largest_position : Way → Line → ℕ
largest_position long l = l.lci
largest_position short l = l.lvi

-- the largest position of a group on a side: LCC, LVC
abbrev pub largest_of_group : Way → GroupLine → ℕ
largest_of_group long l = l.lcc
largest_of_group short l = l.lvc

abbrev pub or_else : Option Line → Option Line → Option Line
or_else (Some l) d = Some l
or_else None d = d

-- the line in force: the instrument's own where set, else the default of its contract, taken whole
unfoldable pub line_in_force : Roster → Lines → ℕ → Option Line
line_in_force r ls i = or_else (ls.own_of i) (ls.default_of (r.contract_of i))

-- a figure of a line; −1 where the line is not set
abbrev pub figure : {A : Type 0} → (A → ℕ) → Option A → ℤ
figure f (Some l) = pos (f l)
figure f None = negsuc 0

abbrev pub is_set : {A : Type 0} → Option A → Bool
is_set (Some l) = true
is_set None = false

-- the limit of a scope on a side, in the scope's unit: a group limit is multiplied by 10,000
unfoldable pub limit : Roster → Lines → Scope → Way → ℤ
limit r ls (instrument i) w = figure (largest_position w) (line_in_force r ls i)
limit r ls (group g) w = pos 10000 *ℤ figure (largest_of_group w) (ls.line_of_group g)
