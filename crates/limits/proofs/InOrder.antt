-- The first no of each table, by the tests that the code makes.
use Rattle.std.specs.Prelude.{◌≡◌, ◌≢◌, ◌&&◌, ◌||◌, ◌∷◌, ◌+ℤ◌, ◌*ℤ◌}
use Rattle.std.specs.Ordering.{int_cmp, is_le, is_gt}
use Rattle.integers.specs.Basics.{ℕ, refl, ◌∙◌, Bool, true, false, not, cond, List, [], Option, None, Some, ℤ}
use Rattle.integers.specs.Basics.{pos, nat_abs, le_z, leb, eq-eqb, ne_eqb}
use native.Mathlib.Nat.{one-mul}
use Rattle.ledger.specs.declared.order.Order.{Order}
use Rattle.ledger.specs.declared.order.Side.{Side}
use Rattle.ledger.specs.declared.order.Side.TheVariants.{Buy, Sell}
use Rattle.ledger.specs.Roster.{Roster, Numbered, group_of_instrument}
use Rattle.ledger.specs.Positions.{Way, long, short, instrument, group, way_of, way_by, same_side, of_instrument, potential}
use Rattle.ledger.specs.Derivatives.{one}
use Rattle.limits.specs.declared.lines.Line.{Line}
use Rattle.limits.specs.Lines.{Lines, largest_order, largest_position, largest_of_group, or_else, line_in_force, is_set, limit}
use Rattle.limits.specs.Questions.{first_no}
use Rattle.limits.specs.Asked.{limits_set, size_fits, same_way, is_zero, moves_instrument, moves_group, within, position_questions}
use Rattle.limits.specs.InBytes.{line_at, group_line_at, says_set}
use Rattle.limits.specs.Raised.{Raised}
use Rattle.limits.specs.Numbers.{existence_questions, size_questions, order_number, instrument_number, group_number}
use Rattle.limits.specs.Bounds.{LinesSet, InForce, OfGroup}
use Rattle.limits.proofs.Raising.{instrument_raised, group_raised}
use Rattle.limits.proofs.Asking.{is_zero_false}
use Rattle.limits.proofs.Compared.{le_test, gt_test, past, not_past}

-- ---- 17
either : (x y : Option Line) → is_set (or_else x y) ≡ is_set x || is_set y
either (Some l) y = refl
either None y = refl

-- the group's line is tested first
group_first : (line of_group : Bool) → cond {A = ℕ} (line && of_group) 0 17 ≡ cond (of_group && line) 0 17
group_first true true = refl
group_first true false = refl
group_first false true = refl
group_first false false = refl

pub existence : (r : Roster) (ls : Lines) (o : Order) (own default of_group : Bool) → LinesSet r ls o own default of_group
    → first_no (existence_questions r ls o) ≡ cond (of_group && (own || default)) 0 17
unfolding first_no existence_questions limits_set line_in_force
existence r ls o own default of_group sets =
    rw (either, sets.own_set, sets.default_set, sets.group_set) (group_first (own || default) of_group)

-- ---- 19 and 20
pub by_size : (r : Roster) (ls : Lines) (o : Order) (line : List ℕ) (s : Side) (total most : ℤ) → InForce r ls o line → o.side ≡ s
    → pos o.total ≡ total → most ≡ pos (largest_order s (line_at line 0))
    → first_no (size_questions one r ls o) ≡ cond (is_le (int_cmp total most)) 0 (order_number s)
unfolding first_no size_questions size_fits one
by_size r ls o line s total most in_force side whole figure =
    rw (le_test, ← whole, figure, side, in_force, one-mul) (by s)
  where
    asked : Side → Bool
    asked s = leb o.total (largest_order s (line_at line 0))

    by : (s : Side) →
        cond (not (same_side s Buy) || asked Buy) (cond (not (same_side s Sell) || asked Sell) 0 20) 19 ≡ cond (asked s) 0 (order_number s)
    by Buy = refl
    by Sell = refl

-- ---- 21 to 24
-- an order that moves its instrument to side w and, unless its weight is zero, its group to side v
in_order : (w v : Way) (z : Bool) (f g : Way → Bool)
    → first_no (record { number = 21; passes = not (same_way w long) || f long } ∷ record {
      number = 22;
      passes =
          not (same_way w short) || f short;
    } ∷ record { number = 23; passes = not (not z && same_way v long) || g long }
    ∷ record { number = 24; passes = not (not z && same_way v short) || g short } ∷ []) ≡ cond (f w) (cond (z || g v) 0 (group_number v))
    (instrument_number w)
unfolding first_no
in_order long long true f g = refl
in_order long long false f g = refl
in_order long short true f g = refl
in_order long short false f g = refl
in_order short long true f g = refl
in_order short long false f g = refl
in_order short short true f g = refl
in_order short short false f g = refl

turned : (t : Bool) (n : ℕ) → cond t 0 n ≡ cond (not t) n 0
turned true n = refl
turned false n = refl

-- x and m are what the code finds for the instrument's position with the event applied and for its limit
module _ (r : Roster) (ls : Lines) (before after : List Order) (S : ℕ → ℤ) (o : Order) (n : ℕ) (line group_line : List ℕ)
    (in_force : InForce r ls o line) (of_group_lem : OfGroup r ls o group_line) (raised : Raised n o before after) (x m : ℤ)
    (found : x ≡ of_instrument one before o.account S o.instrument (way_of o.side) +ℤ pos n)
    (most : m ≡ pos (largest_position (way_of o.side) (line_at line 0))) where
  of_instrument_lem : within one r ls after S o (instrument o.instrument) (way_of o.side) ≡ le_z x m
  unfolding within potential limit
  of_instrument_lem = rw (found, most, instrument_raised n o before after raised S, in_force)

  by_tests : (t u : Bool) (v : Way) → v ≡ way_by (r.weight o.instrument) (way_of o.side) → le_z x m ≡ t
      → within one r ls after S o (group (group_of_instrument r o.instrument)) v ≡ u
      → first_no (position_questions one r ls after S o) ≡ cond t (cond (is_zero (r.weight o.instrument) || u) 0 (group_number v))
      (instrument_number (way_of o.side))
  unfolding position_questions moves_instrument moves_group
  by_tests t u v way e f =
      rw (← way) (in_order (way_of o.side) v (is_zero (r.weight o.instrument)) (within one r ls after S o (instrument o.instrument))
      (within one r ls after S o (group (group_of_instrument r o.instrument))) ∙ rw (of_instrument_lem, e, f))

  pub instrument_passed : is_gt (int_cmp x m) ≡ true → first_no (position_questions one r ls after S o) ≡ instrument_number (way_of o.side)
  instrument_passed e = by_tests false _ _ refl (past x m e) refl

  pub no_group : is_gt (int_cmp x m) ≡ false → r.weight o.instrument ≡ pos 0 → first_no (position_questions one r ls after S o) ≡ 0
  no_group e zero = by_tests true _ _ refl (not_past x m e) refl ∙ simp zero

  -- and y and q what it finds for the group's position, on the side that the order moves, and for its limit
  pub by_group : is_gt (int_cmp x m) ≡ false → Numbered r.instruments o.instrument → r.weight o.instrument ≢ pos 0 → (v : Way)
      → v ≡ way_by (r.weight o.instrument) (way_of o.side) → (y q : ℤ)
      → y ≡ potential one r before o.account S (group (group_of_instrument r o.instrument)) v +ℤ pos
      (nat_abs (r.weight o.instrument)) *ℤ pos n → q ≡ pos 10000 *ℤ pos (largest_of_group v (group_line_at group_line 0))
      → first_no (position_questions one r ls after S o) ≡ cond (is_gt (int_cmp y q)) (group_number v) 0
  unfolding within limit
  by_group e numbered weight v way y q d f =
      by_tests true (le_z y q) v way (not_past x m e)
      (rw (d, f, group_raised n o before after raised S r numbered v way, of_group_lem))
      ∙ simp (is_zero_false (r.weight o.instrument) weight, gt_test) (turned (le_z y q) (group_number v))
