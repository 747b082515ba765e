-- A LIMIT in its 48 bytes, by the line that it sets: document 01, "Events".
use Rattle.std.specs.Prelude.{◌≤◌}
use Rattle.integers.specs.Basics.{ℕ, List, ℤ, pos, nat_abs}
use Rattle.book.specs.declared.Figures.{Figures}
use Rattle.book.specs.declared.LimitLine.{LimitLine}
use Rattle.book.specs.declared.LimitLine.TheVariants.{Own, Default, OfGroup}
use Rattle.book.specs.EventBytes.{limit_bytes as bytes_at_level}

-- an account's line: level 1 instrument, 2 contract default, with four figures; 3 group, with two, and the others are zero
unfoldable pub limit_bytes : ℕ → LimitLine → List ℕ
limit_bytes a (Own i f) = bytes_at_level 1 a i f.tci f.tvi f.lci f.lvi
limit_bytes a (Default c f) = bytes_at_level 2 a c f.tci f.tvi f.lci f.lvi
limit_bytes a (OfGroup g x y) = bytes_at_level 3 a g x y (pos 0) (pos 0)

-- the number of the line's item
abbrev pub number_in : LimitLine → ℕ
number_in (Own i f) = i
number_in (Default c f) = c
number_in (OfGroup g x y) = g

-- at most 1,000,000,000 either way, as each figure of a line in range is
abbrev pub Small : ℤ → Type 0
Small z = nat_abs z ≤ 1000000000

pub record FourSmall (f : Figures) : Type 0 where
  pub tci : Small f.tci
  pub tvi : Small f.tvi
  pub lci : Small f.lci
  pub lvi : Small f.lvi

abbrev pub FiguresSmall : LimitLine → Type 0
FiguresSmall (Own i f) = FourSmall f
FiguresSmall (Default c f) = FourSmall f
FiguresSmall (OfGroup g x y) = Small x × Small y
