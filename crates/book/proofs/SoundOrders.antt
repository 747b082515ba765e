-- Open orders stay in range, at most 256, and marked: what each kind of accepted event leaves of them.
use Rattle.std.specs.Prelude.{◌≤◌, ◌≡◌, ◌≢◌}
use Rattle.integers.specs.Basics.{ℕ, refl, ◌∙◌, ap, ⊎_elim, by_cases, true, List, ListMemᴰ, ListMemᴰ_not_nil, Some, ℤ}
use Rattle.integers.specs.Basics.{nat_abs, length, ℕ_discrete, arith, not-true, ltb-true}
use mathlib.Core.List.Memᴰ
use Rattle.ledger.specs.declared.order.Order.{Order}
use Rattle.ledger.specs.declared.order.Side.{Side}
use Rattle.ledger.specs.Orders.{remaining}
use Rattle.ledger.specs.Roster.{Roster, Numbered}
use Rattle.limits.specs.Lines.{is_set}
use Rattle.limits.proofs.LineLaws.{unset_none}
use Rattle.book.specs.declared.Event.{Event}
use Rattle.book.specs.declared.OrderChange.{OrderChange}
use Rattle.book.specs.declared.Event.TheVariants.{Set, New, Change, Junk}
use Rattle.book.specs.OpenOrders.{find, change, kept}
use Rattle.book.specs.Books.{new_order, order_after, changed, book_after}
use Rattle.book.specs.States.{State, mark, work}
use Rattle.book.specs.Table.{account_known, item_known, figures_fit, change_in_range, fits_order, id_free, place_free}
use Rattle.book.specs.Sound.{OrderFits, Ascending, Sound}
use Rattle.book.proofs.Cuts.{standing, insert_ascending, insert_members, insert_length, standing_member, change_members}
use Rattle.book.proofs.Cuts.{change_length}
use Rattle.book.proofs.OrderChanges.{same_order, after_fits}
use Rattle.book.proofs.Ids.{Became, gone, became, changed_became, change_ascending}
use Rattle.book.proofs.Accepted.{Passed}
use Rattle.book.proofs.Tables.{at_each, between_numbered, quantity_numbered}
use Rattle.book.proofs.Shifts.{kept_none, kept_some}
use Rattle.book.proofs.Decoded.{HasId}
use Rattle.book.proofs.Within.{named_order}

-- what remains open of an order that was changed: it, and something of it remains
pub kept_member : (o x : Order) → ListMemᴰ x (kept o) → (x ≡ o) × (remaining o ≢ 0)
kept_member o x m =
    by_cases (ℕ_discrete (remaining o) 0)
    (λ e. absurd (ListMemᴰ_not_nil (rw (kept_none o e) at m)))
    (λ h. (Memᴰ.eq_of_singleton (rw (kept_some o h) at m), h))

became_length : (o : Order) (l : List Order) → Became o l → length l ≤ 1
became_length o l gone = omega arith
became_length o l (became e) = omega arith

module _ (id : ℕ) (f : Order → List Order) (os : List Order) (o : Order) (found : find id os ≡ Some o) where
  -- what holds of the open orders, and of what one of them becomes, holds after the change
  pub change_each : (P : Order → Type 0) → ((x : Order) → ListMemᴰ x os → P x) → ((x : Order) → ListMemᴰ x (f o) → P x) → (x : Order)
      → ListMemᴰ x (change id f os) → P x
  change_each P old new x m = ⊎_elim (new x) (old x) (change_members (standing id os o found) f x m)

-- ---- orders in range
module _ (r : Roster) where
  pub new_fits : (s : Side) (a i id : ℕ) (n : ℤ) → Numbered r.accounts a → Numbered r.instruments i → Numbered 1000000 (nat_abs n)
      → OrderFits r (new_order s a i id n)
  unfolding new_order remaining
  new_fits s a i id n account item quantity =
      record { account = account; instrument = item; total = quantity; remains = omega arith }

-- what a change makes of an order that it fits is an order of the same account, and in range
pub changed_account : (c : OrderChange) (o x : Order) → ListMemᴰ x (changed c o) → x.account ≡ o.account
unfolding changed
changed_account c o x m =
    ap (λ y. y.account) (kept_member (order_after c o) x m).0 ∙ (same_order c o).account

changed_fits : (r : Roster) (c : OrderChange) (o : Order) → OrderFits r o → change_in_range c ≡ true → fits_order c o ≡ true → (x : Order)
    → ListMemᴰ x (changed c o) → OrderFits r x
unfolding changed remaining
changed_fits r c o was figures fits x m =
    let h = kept_member (order_after c o) x m in
    let rest = h.1 in
    let whole : o.filled ≤ o.total = omega (arith, was.remains) in
    let after = after_fits c o whole was.total.1 figures fits in
    let same = same_order c o in
    rw h.0 (record {
      account = rw same.account was.account;
      instrument = rw same.instrument was.instrument;
      total = omega arith;
      remains = omega arith;
    })

-- ---- what each kind leaves
module _ (k : State) (sound : Sound k) where
  member : (id : ℕ) (o : Order) → find id k.book.orders ≡ Some o → ListMemᴰ o k.book.orders
  member id o found = standing_member (standing id k.book.orders o found)

  pub fits_after : (e : Event) → Passed k e → (x : Order) → ListMemᴰ x (work k e).book.orders → OrderFits k.roster x
  unfolding book_after account_known item_known figures_fit
  fits_after (Set y) ok x m = sound.fits x m
  fits_after (New s a i id n) ok x m =
      let r = k.roster in
      let new = new_fits r s a i id n (between_numbered r.accounts a ok.account) (between_numbered r.instruments i ok.item)
      (quantity_numbered n ok.figures) in
      ⊎_elim (λ e. rw e new) (sound.fits x) ((insert_members (new_order s a i id n) k.book.orders x).0 m)
  fits_after (Change id c) ok x m =
      let f = named_order k id c ok in
      let was = sound.fits f.order (member id f.order f.found) in
      change_each id (changed c) k.book.orders f.order f.found (OrderFits k.roster) sound.fits
      (changed_fits k.roster c f.order was f.figures f.fits) x m
  fits_after Junk ok x m = sound.fits x m

  pub count_after : (e : Event) → Passed k e → length (work k e).book.orders ≤ 256
  unfolding book_after place_free
  count_after (Set x) ok = sound.count
  count_after (New s a i id n) ok =
      let few = ltb-true (length k.book.orders) 256 ok.room in
      omega (arith, insert_length (new_order s a i id n) k.book.orders)
  count_after (Change id c) ok =
      let f = named_order k id c ok in
      let o = f.order in
      omega (
        arith,
        sound.count,
        change_length (standing id k.book.orders o f.found) (changed c),
        became_length o (changed c o) (changed_became c o),
      )
  count_after Junk ok = sound.count

  pub ids_after : (e : Event) → HasId e → Passed k e → Ascending 0 (work k e).book.orders
  unfolding book_after id_free new_order
  ids_after (Set x) id-0 ok = sound.ids
  ids_after (New s a i id n) id-0 ok =
      insert_ascending sound.ids (new_order s a i id n) id-0
      (unset_none (find id k.book.orders) (not-true (is_set (find id k.book.orders)) ok.fresh))
  ids_after (Change id c) id-0 ok = change_ascending sound.ids id (changed c) (changed_became c)
  ids_after Junk id-0 ok = sound.ids

  -- every account with an open order is marked
  pub marked_after : (e : Event) → Passed k e → (x : Order) → ListMemᴰ x (work k e).book.orders
      → (work k e).beside.trading x.account ≡ true
  unfolding book_after mark new_order
  marked_after (Set y) ok x m = sound.marked x m
  marked_after (New s a i id n) ok x m =
      at_each a true k.beside.trading (λ t. t ≡ true) x.account (λ _. refl)
      (λ other. ⊎_elim (λ e. absurd (other (rw e))) (sound.marked x) ((insert_members (new_order s a i id n) k.book.orders x).0 m))
  marked_after (Change id c) ok x m =
      let f = named_order k id c ok in
      let own = sound.marked f.order (member id f.order f.found) in
      change_each id (changed c) k.book.orders f.order f.found (λ y. k.beside.trading y.account ≡ true) sound.marked
      (λ y there. rw (changed_account c f.order y there) own) x m
  marked_after Junk ok x m = sound.marked x m
