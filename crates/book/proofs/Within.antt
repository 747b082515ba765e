-- An accepted event keeps a potential position within every bound that its limit is within. With the limit itself for the
-- bound this is demand 3's second half; with the largest figure it is soundness.
use Rattle.std.specs.Prelude.{◌≡◌, ◌≢◌, ◌≤ℤ◌}
use Rattle.integers.specs.Basics.{ℕ, refl, ◌∙◌, sym, ap, by_cases, true, Option, None, Some, ℤ, ℕ_discrete, signed}
use Rattle.ledger.specs.declared.order.Order.{Order}
use Rattle.ledger.specs.Roster.{Roster}
use Rattle.ledger.specs.Positions.{Way, Scope, instrument, group}
use Rattle.ledger.specs.Moves.{Moves}
use Rattle.ledger.proofs.Movement.{moves?}
use Rattle.limits.specs.Lines.{is_set}
use Rattle.limits.proofs.LineLaws.{set_some}
use Rattle.book.specs.declared.Setting.{Setting}
use Rattle.book.specs.declared.Event.{Event}
use Rattle.book.specs.declared.OrderChange.{OrderChange}
use Rattle.book.specs.declared.Event.TheVariants.{Set, New, Change, Junk}
use Rattle.book.specs.OpenOrders.{find}
use Rattle.book.specs.Books.{Book, new_order, book_after}
use Rattle.book.specs.States.{State, work}
use Rattle.book.specs.Names.{balance_account}
use Rattle.book.specs.Table.{figures_fit, change_in_range, id_open, fits_order, quantity_fits, raised, entered}
use Rattle.book.specs.Positions.{potential_of}
use Rattle.book.specs.Demand3.{limit_of}
use Rattle.book.proofs.Accepted.{Passed, Accepted}
use Rattle.book.proofs.Settings.{by_balance}
use Rattle.book.proofs.OrderChanges.{SameOrder, same_order, raised_after, not_raised}
use Rattle.book.proofs.Potentials.{balance_other, new_unmoved, new_other, change_lowers, change_unmoved}

-- the event sets no balance of account a
abbrev pub SetsNoBalance : ℕ → Event → Type 0
SetsNoBalance a e = balance_account e ≢ Some a

-- the order that an accepted REPLACE, CANCEL or FILL names
pub found_order : (id : ℕ) (b : Book) → is_set (find id b.orders) ≡ true → (o : Order) × (find id b.orders ≡ Some o)
found_order id b e = set_some (find id b.orders) e

-- the order that an accepted change names, and that the change fits it
pub record Named (k : State) (id : ℕ) (c : OrderChange) : Type 0 where
  pub order : Order
  pub found : find id k.book.orders ≡ Some order
  pub fits : fits_order c order ≡ true
  pub figures : change_in_range c ≡ true

pub named_order : (k : State) (id : ℕ) (c : OrderChange) → Passed k (Change id c) → Named k id c
unfolding id_open quantity_fits figures_fit
named_order k id c ok =
    let f = found_order id k.book ok.found in
    record {
      order = f.0;
      found = f.1;
      fits = rw f.1 at ok.quantity;
      figures = ok.figures;
    }

-- the same order moves the same
same_moves : (r : Roster) {o o' : Order} → SameOrder o o' → (w : Way) (p : Scope) → Moves r o p w → Moves r o' p w
same_moves r same w (instrument i) m = rw (same.instrument, same.side) m
same_moves r same w (group g) m = rw (same.instrument, same.side) m

module _ (k : State) (a : ℕ) (p : Scope) (w : Way) (bound : ℤ) where
  -- the order that it enters or raises: what that moves was checked
  entered_within : (e : Event) → Accepted k e → (o : Order) → entered k.book e ≡ Some o
      → (work k e).book.lines_of ≡ k.book.lines_of → limit_of k a p w ≤ℤ bound → o.account ≡ a → Moves k.roster o p w
      → potential_of (work k e) a p w ≤ℤ bound
  entered_within e acc o enters lines le own m =
      let h = acc.within o enters p w m in
      let within : potential_of (work k e) a p w ≤ℤ limit_of k a p w = rw (own, lines) at h in
      omega signed

  -- a change: an order that it raises is checked as one that is entered; what it does not raise it lowers or leaves
  changed_within : (id : ℕ) (c : OrderChange) → Accepted k (Change id c) → limit_of k a p w ≤ℤ bound → potential_of k a p w ≤ℤ bound
      → potential_of (work k (Change id c)) a p w ≤ℤ bound
  unfolding entered book_after
  changed_within id c acc le h = by (raised c (Some o)) refl
    where
      x : Named k id c
      x = named_order k id c acc.passed

      o : Order
      o = x.order

      by : (y : Option Order) → raised c (Some o) ≡ y → potential_of (work k (Change id c)) a p w ≤ℤ bound
      by None e = omega (signed, change_lowers k a p w id o x.found c (not_raised c o e x.fits))
      by (Some y) e =
          let same : SameOrder o y = rw (raised_after c o y e) (same_order c o) in
          let rest : ¬ ((o.account ≡ a) × Moves k.roster o p w) → potential_of (work k (Change id c)) a p w ≤ℤ bound =
          λ out. omega (signed, change_unmoved k a p w id o x.found c out) in
          by_cases (ℕ_discrete o.account a)
          (λ own. by_cases (moves? k.roster o p w)
          (λ m. entered_within (Change id c) acc y (rw x.found e) refl le (same.account ∙ own) (same_moves k.roster same w p m))
          (λ out. rest (λ both. out both.1)))
          (λ other. rest (λ both. other both.0))

  -- a setting moves a position by a balance only, and that is of another account
  set_within : (x : Setting) → SetsNoBalance a (Set x) → potential_of k a p w ≤ℤ bound → potential_of (work k (Set x)) a p w ≤ℤ bound
  unfolding book_after
  set_within x out h =
      by_balance (λ s. SetsNoBalance a (Set s) → potential_of (work k (Set s)) a p w ≤ℤ bound) x
      (λ c i z other. let same = balance_other k a p w c i z (λ e. other (ap Some (sym e))) in omega signed) (λ none _. rw none h) out

  pub kept_within : (e : Event) → Accepted k e → SetsNoBalance a e → limit_of k a p w ≤ℤ bound → potential_of k a p w ≤ℤ bound
      → potential_of (work k e) a p w ≤ℤ bound
  unfolding entered new_order book_after
  kept_within (Set x) acc out le h = set_within x out h
  kept_within (New s c i id n) acc out le h =
      let o = new_order s c i id n in
      by_cases (ℕ_discrete c a)
      (λ own. by_cases (moves? k.roster o p w)
      (entered_within (New s c i id n) acc o refl refl le own)
      (λ m. let same = new_unmoved k a p w s c i id n m in omega signed))
      (λ other. let same = new_other k a p w s c i id n other in omega signed)
  kept_within (Change id c) acc out le h = changed_within id c acc le h
  kept_within Junk acc out le h = h
