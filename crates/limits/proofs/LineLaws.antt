-- Laws of lines: the line in force, and a limit that is set.
use Rattle.std.specs.Prelude.{◌*◌, ◌≡◌}
use Rattle.integers.specs.Basics.{ℕ, refl, true, false, false≢true, Option, None, Some, pos, arith}
use Rattle.ledger.specs.Roster.{Roster}
use Rattle.ledger.specs.Positions.{Way, instrument, group}
use Rattle.limits.specs.declared.lines.Line.{Line}
use Rattle.limits.specs.declared.lines.GroupLine.{GroupLine}
use Rattle.limits.specs.Lines.{Lines, line_in_force, is_set, limit, largest_position, largest_of_group}

module _ (r : Roster) (ls : Lines) where
  -- the instrument's own line where it is set, whole
  pub own_in_force : (i : ℕ) (l : Line) → ls.own_of i ≡ Some l → line_in_force r ls i ≡ Some l
  unfolding line_in_force
  own_in_force i l e = rw e

  -- else the default of its contract, whole, set or not
  pub default_in_force : (i : ℕ) → ls.own_of i ≡ None → line_in_force r ls i ≡ ls.default_of (r.contract_of i)
  unfolding line_in_force
  default_in_force i e = rw e

  -- the limit that a line sets, in the scope's unit
  pub limit_of_instrument : (i : ℕ) (w : Way) (l : Line) → line_in_force r ls i ≡ Some l
      → limit r ls (instrument i) w ≡ pos (largest_position w l)
  unfolding limit
  limit_of_instrument i w l e = rw e

  pub limit_of_group : (g : ℕ) (w : Way) (l : GroupLine) → ls.line_of_group g ≡ Some l
      → limit r ls (group g) w ≡ pos (10000 * largest_of_group w l)
  unfolding limit
  limit_of_group g w l e = rw e

-- a line that is set is some line
pub set_some : {A : Type 0} (x : Option A) → is_set x ≡ true → (l : A) × (x ≡ Some l)
set_some (Some l) e = (l, refl)
set_some None e = absurd (false≢true e)

pub none_some : {A P : Type 0} (l : A) → ◌≡◌ {A = Option A} None (Some l) → P
none_some l e = absurd (let z : ◌≡◌ {A = ℕ} 0 1 = cc in omega arith)

pub unset_none : {A : Type 0} (x : Option A) → is_set x ≡ false → x ≡ None
unset_none (Some l) e = cc
unset_none None e = refl
