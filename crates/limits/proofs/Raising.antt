-- What an event that raises B or V does to the potential positions of the order's own instrument and group, and that a NEW
-- and a REPLACE to a larger total are such events.
use Rattle.std.specs.Prelude.{◌+◌, ◌-◌, ◌≤◌, ◌≡◌, ◌+ℤ◌, ◌*ℤ◌}
use Rattle.integers.specs.Basics.{ℕ, refl, sym, ap, List, ℤ, pos, nat_abs, arith}
use native.Mathlib.Nat.{one-mul}
use Rattle.ledger.specs.declared.order.Order.{Order}
use Rattle.ledger.specs.declared.order.Side.{Side}
use Rattle.ledger.specs.Orders.{remaining, replaced_total}
use Rattle.ledger.specs.Roster.{Roster, Numbered, group_of_instrument}
use Rattle.ledger.specs.Positions.{Way, group, way_of, way_by, stands_in, of_instrument, potential}
use Rattle.ledger.specs.Derivatives.{one}
use Rattle.ledger.proofs.Amounts.{amount, amount_none, amount_sum}
use Rattle.ledger.proofs.Sums.{Joined, Changed}
use Rattle.ledger.proofs.Changes.{CountChanged, entered, replaced, shift_by, shift_group}
use Rattle.ledger.proofs.Linear.{linear}
use Rattle.limits.specs.Raised.{added_on, Raised}

-- ---- shifts
amount_added : (s : Side) (a i : ℕ) (o : Order) (n : ℕ) → amount one s a i o n ≡ added_on n o s a i
unfolding amount added_on one
amount_added s a i o n = rw (one-mul n)

module _ (n : ℕ) (o : Order) (before after : List Order) where
  raised_shift : Raised n o before after → CountChanged one o 0 n before after
  raised_shift raised =
      record {
        sums = λ s a i. omega (linear, raised.sums s a i, amount_added s a i o n, amount_none one s a i o);
      }

  shift_raised : (m : ℕ) → CountChanged one o m (m + n) before after → Raised n o before after
  shift_raised m shift =
      record {
        sums = λ s a i. omega (linear, shift.sums s a i, amount_sum one s a i o m n, amount_added s a i o n);
      }

-- ---- the events
module _ (o : Order) (before after : List Order) where
  -- NEW: order o joins
  pub raised_by_new : Joined o before after → Raised (remaining o) o before after
  raised_by_new joined =
      let e : 0 + remaining o ≡ remaining o = omega arith in
      shift_raised (remaining o) o before after 0 (rw e (entered one o before after joined))

  -- REPLACE: order o gets a larger total
  pub raised_by_replace : (total : ℕ) → o.filled ≤ o.total → o.total ≤ total → Changed o (replaced_total o total) before after
      → Raised (total - o.total) (replaced_total o total) before after
  unfolding replaced_total added_on stands_in one
  raised_by_replace total sound rises change =
      let e : o.total - o.filled + (total - o.total) ≡ total - o.filled = omega arith in
      let shift : CountChanged one o (o.total - o.filled) (o.total - o.filled + (total - o.total)) before after =
      rw e (replaced one o before after total refl change) in
      record { sums = (shift_raised (total - o.total) o before after (o.total - o.filled) shift).sums }

-- ---- the positions that the order moves
module _ (n : ℕ) (o : Order) (before after : List Order) (raised : Raised n o before after) (S : ℕ → ℤ) where
  pub instrument_raised : of_instrument one after o.account S o.instrument (way_of o.side) ≡ of_instrument one before o.account S
      o.instrument (way_of o.side) +ℤ pos n
  unfolding one
  instrument_raised =
      shift_by (raised_shift n o before after raised) o.account S refl (pos n) (ap pos (omega arith)) (way_of o.side) refl

  pub group_raised : (r : Roster) → Numbered r.instruments o.instrument → (w : Way)
      → w ≡ way_by (r.weight o.instrument) (way_of o.side)
      → potential one r after o.account S (group (group_of_instrument r o.instrument)) w ≡ potential one r before o.account S
      (group (group_of_instrument r o.instrument)) w +ℤ pos (nat_abs (r.weight o.instrument)) *ℤ pos n
  unfolding one
  group_raised r numbered w e =
      shift_group (raised_shift n o before after raised) o.account S refl (pos n) (ap pos (omega arith)) r w numbered (sym e)
