-- The figures of an accepted LIMIT: −1 throughout, or limits; and each line under the name that the match gives it.
use Rattle.std.specs.Prelude.{◌≡◌, ◌&&◌, ◌||◌}
use Rattle.integers.specs.Basics.{ℕ, refl, ◌∙◌, sym, ap, Bool, true, false, List, None, Some, ℤ, pos, negsuc, nat_abs, false≢true}
use Rattle.integers.specs.Basics.{w64, SFits, to_z, of_z, to_z-of_z}
use Rattle.book.specs.declared.Figures.{Figures}
use Rattle.book.specs.declared.LimitLine.{LimitLine}
use Rattle.book.specs.declared.LimitLine.TheVariants.{Own, Default, OfGroup}
use Rattle.book.specs.declared.Setting.TheVariants.{Limit}
use Rattle.book.specs.declared.Event.TheVariants.{Set}
use Rattle.book.specs.Books.{is_minus_one, unsets, line_of, group_line_of}
use Rattle.book.specs.Table.{line_fits}
use Rattle.memory_layout.proofs.MarketRead.{market_most}
use Rattle.memory_layout.specs.View.{market_of}
use Rattle.memory_working.specs.Working.{AcceptedEvent, LineStorable, GroupLineStorable, line_stored, worked}
use Rattle.memory_working.proofs.AcceptedFacts.{accepted_facts}

-- a figure as the machine holds it
abbrev pub as_word : ℤ → ℤ
as_word z = to_z w64 (of_z w64 z)

-- ---- four figures: t is what the test of them said
pub line_unset : (f : Figures) {t : Bool} → t ≡ unsets f → t ≡ true → None ≡ line_of f
unfolding line_of
line_unset f said h = rw (← said, h)

pub line_set : (f : Figures) {t : Bool} → t ≡ unsets f → t ≡ false → SFits w64 f.tci → SFits w64 f.tvi → SFits w64 f.lci
    → SFits w64 f.lvi
    → Some (record {
      tci = nat_abs (as_word f.tci);
      tvi = nat_abs (as_word f.tvi);
      lci = nat_abs (as_word f.lci);
      lvi = nat_abs (as_word f.lvi);
    })
    ≡ line_of f
unfolding line_of
line_set f said h a b c d =
    rw (to_z-of_z w64 f.tci a, to_z-of_z w64 f.tvi b, to_z-of_z w64 f.lci c, to_z-of_z w64 f.lvi d, ← said, h)

-- ---- two figures: where the first is −1 it is no limit, so both are −1
both_minus_one : (largest : ℕ) (x y : ℤ) → line_fits largest (OfGroup 0 x y) ≡ true → is_minus_one x ≡ true → is_minus_one y ≡ true
both_minus_one largest (pos n) y fits first = absurd (false≢true first)
both_minus_one largest (negsuc n) y fits first = by (is_minus_one y) (rw first at fits)
  where
    by : (u : Bool) → (true && u) || false ≡ true → u ≡ true
    by true h = refl
    by false h = absurd (false≢true h)

-- t is what the test of the first said
module _ {x y : ℤ} (figures : GroupLineStorable x y) (fits_x : SFits w64 x) {t : Bool} (said : t ≡ is_minus_one (as_word x)) where
  first : is_minus_one x ≡ t
  first = sym (said ∙ ap is_minus_one (to_z-of_z w64 x fits_x))

  pub group_unset : t ≡ true → None ≡ group_line_of x y
  unfolding group_line_of
  group_unset h = rw (first, h, both_minus_one _ x y figures.fits (first ∙ h))

  pub group_set : t ≡ false → SFits w64 y → Some (record { lcc = nat_abs (as_word x); lvc = nat_abs (as_word y) }) ≡ group_line_of x y
  unfolding group_line_of
  group_set h fits_y = rw (to_z-of_z w64 x fits_x, to_z-of_z w64 y fits_y, first, h)

-- ---- the figures of an accepted line can be stored
abbrev pub Storable : LimitLine → Type 0
Storable (Own i f) = LineStorable f
Storable (Default c f) = LineStorable f
Storable (OfGroup g x y) = GroupLineStorable x y

pub storable : {m : List ℕ} {a : ℕ} {l : LimitLine} → AcceptedEvent m (Set (Limit a l)) → Storable l
storable {m} {a} {l} ready = by l (accepted_facts m ready.held (Set (Limit a l)) ready.accepted).2
  where
    by : (k : LimitLine) → line_fits (market_of m).largest k ≡ true → Storable k
    by (Own i f) fits = record { largest = (market_of m).largest; most = market_most m; fits = fits }
    by (Default c f) fits = record { largest = (market_of m).largest; most = market_most m; fits = fits }
    by (OfGroup g x y) fits = record { largest = (market_of m).largest; most = market_most m; fits = fits }

-- ---- a line by another name
pub ready_line : {m : List ℕ} {a : ℕ} {l k : LimitLine} → l ≡ k → AcceptedEvent m (Set (Limit a l)) → AcceptedEvent m (Set (Limit a k))
ready_line same ready = rw same at ready

pub worked_line : (m : List ℕ) (a : ℕ) {l k : LimitLine} {x : List ℕ} → l ≡ k → x ≡ line_stored m a k → x ≡ worked m (Set (Limit a l))
unfolding worked
worked_line m a same stored = rw same stored

pub group_handed : {l : LimitLine} {g : ℕ} {x y : ℤ} → l ≡ OfGroup g x y → SFits w64 x → SFits w64 y
    → l ≡ OfGroup g (as_word x) (as_word y)
group_handed {x = x} {y = y} same fits_x fits_y = rw (to_z-of_z w64 x fits_x, to_z-of_z w64 y fits_y) same
