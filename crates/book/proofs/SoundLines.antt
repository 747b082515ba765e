-- Lines stay in range: the figures that pass question 9 make a line in range, and a line in range gives limits in range.
use Rattle.std.specs.Prelude.{◌≤◌, ◌≡◌, ◌&&◌, ◌||◌, ◌≤ℤ◌}
use Rattle.integers.specs.Basics.{ℕ, refl, Bool, true, Option, None, Some, ℤ, pos, nat_abs, signed}
use Rattle.integers.specs.Basics.{magnitude_parts}
use Rattle.ledger.specs.Roster.{Roster}
use Rattle.ledger.specs.Positions.{Way, long, short, instrument}
use Rattle.ledger.proofs.Ways.{by_test}
use Rattle.limits.specs.declared.lines.Line.{Line}
use Rattle.limits.specs.declared.lines.GroupLine.{GroupLine}
use Rattle.limits.specs.Lines.{Lines, or_else, line_in_force, figure, largest_position, limit}
use Rattle.limits.proofs.Answers.{both_true}
use Rattle.limits.proofs.LineLaws.{none_some}
use Rattle.book.specs.declared.Figures.{Figures}
use Rattle.book.specs.declared.LimitLine.{LimitLine}
use Rattle.book.specs.declared.LimitLine.TheVariants.{Own, Default, OfGroup}
use Rattle.book.specs.Books.{is_minus_one, unsets, line_of, group_line_of, set_line}
use Rattle.book.specs.Table.{is_limit, figures_of_line_fit, line_fits}
use Rattle.book.specs.Sound.{LineFits, GroupLineFits, LinesFit}
use Rattle.book.proofs.Tables.{at_each, between_ℤ_both}

-- ---- figures that pass question 9
pub four_true : (x y z t : Bool) → x && y && z && t ≡ true → (x ≡ true) × (y ≡ true) × (z ≡ true) × (t ≡ true)
four_true x y z t e =
    let h = both_true (x && y && z) t e in
    let k = both_true (x && y) z h.0 in
    let l = both_true x y k.0 in
    (l.0, l.1, k.1, h.1)

module _ (largest : ℕ) where
  pub figure_fits : (z : ℤ) → is_limit largest z ≡ true → nat_abs z ≤ largest
  figure_fits z e =
      let h = between_ℤ_both (pos 0) (pos largest) z e in
      omega (signed, magnitude_parts z)

  pub line_fits_lem : (f : Figures) → figures_of_line_fit largest f ≡ true → (l : Line) → line_of f ≡ Some l → LineFits largest l
  unfolding line_of
  line_fits_lem f fit l e =
      by_test (unsets f) (λ t. none_some l (rw t at e))
      (λ t.
      let made = rw t at e in
      let h = four_true (is_limit largest f.tci) (is_limit largest f.tvi) (is_limit largest f.lci) (is_limit largest f.lvi)
      (rw t at fit) in
      let same : l ≡ record { tci = nat_abs f.tci; tvi = nat_abs f.tvi; lci = nat_abs f.lci; lvi = nat_abs f.lvi } = cc in
      rw same (record {
        tci = figure_fits f.tci h.0;
        tvi = figure_fits f.tvi h.1;
        lci = figure_fits f.lci h.2;
        lvi =
            figure_fits f.lvi h.3;
      }))

  pub group_line_fits : (x y : ℤ) → (is_minus_one x && is_minus_one y) || (is_limit largest x && is_limit largest y) ≡ true
      → (l : GroupLine)
      → group_line_of x y ≡ Some l → GroupLineFits largest l
  unfolding group_line_of
  group_line_fits x y fit l e =
      by_test (is_minus_one x && is_minus_one y) (λ t. none_some l (rw t at e))
      (λ t.
      let made = rw t at e in
      let h = both_true (is_limit largest x) (is_limit largest y) (rw t at fit) in
      let same : l ≡ record { lcc = nat_abs x; lvc = nat_abs y } = cc in
      rw same (record { lcc = figure_fits x h.0; lvc = figure_fits y h.1 }))

  pub set_fits : (l : LimitLine) (ls : Lines) → line_fits largest l ≡ true → LinesFit largest ls → LinesFit largest (set_line l ls)
  unfolding set_line
  set_fits (Own i f) ls fit was =
      record {
        own =
            λ j l. at_each i (line_of f) ls.own_of (λ x. x ≡ Some l → LineFits largest l) j (λ _. line_fits_lem f fit l)
            (λ _. was.own j l);
        default = was.default;
        of_group = was.of_group;
      }
  set_fits (Default c f) ls fit was =
      record {
        own = was.own;
        default =
            λ j l. at_each c (line_of f) ls.default_of (λ x. x ≡ Some l → LineFits largest l) j (λ _. line_fits_lem f fit l)
            (λ _. was.default j l);
        of_group = was.of_group;
      }
  set_fits (OfGroup g x y) ls fit was =
      record {
        own = was.own;
        default = was.default;
        of_group =
            λ j l. at_each g (group_line_of x y) ls.line_of_group (λ k. k ≡ Some l → GroupLineFits largest l) j
            (λ _. group_line_fits x y fit l) (λ _. was.of_group j l);
      }

-- ---- a limit of an instrument is at most the largest figure
largest_fits : (largest : ℕ) (w : Way) (l : Line) → LineFits largest l → largest_position w l ≤ largest
largest_fits largest long l fits = fits.lci
largest_fits largest short l fits = fits.lvi

pub limit_fits : (r : Roster) (ls : Lines) (largest : ℕ) → LinesFit largest ls → (i : ℕ) (w : Way)
    → limit r ls (instrument i) w ≤ℤ pos largest
unfolding limit line_in_force
limit_fits r ls largest fit i w = by (ls.own_of i) (ls.default_of (r.contract_of i)) (fit.own i) (fit.default (r.contract_of i))
  where
    by : (own default : Option Line) → ((l : Line) → own ≡ Some l → LineFits largest l)
        → ((l : Line) → default ≡ Some l → LineFits largest l) → figure (largest_position w) (or_else own default) ≤ℤ pos largest
    by (Some l) default h k = let f = largest_fits largest w l (h l refl) in omega signed
    by None (Some l) h k = let f = largest_fits largest w l (k l refl) in omega signed
    by None None h k = omega signed
