-- The order that an accepted event names, found at its place: what the code stores there is what the event makes of it.
use Rattle.std.specs.Prelude.{◌≤◌, ◌<◌, ◌≡◌}
use Rattle.integers.specs.Basics.{ℕ, refl, ◌∙◌, sym, ap, List, Some, ℤ, pos, nat_abs, arith, signed}
use Rattle.integers.specs.Basics.{magnitude_parts}
use Rattle.words.specs.Words.{word_at}
use Rattle.ledger.specs.declared.order.Order.{Order}
use Rattle.ledger.specs.declared.order.Side.{Side}
use Rattle.ledger.specs.Orders.{remaining, closes}
use Rattle.ledger.proofs.Ways.{by_test}
use Rattle.ledger.specs.Records.{packed_account, order_of}
use Rattle.book.specs.declared.OrderChange.{OrderChange}
use Rattle.book.specs.declared.Event.TheVariants.{New, Change}
use Rattle.book.specs.OpenOrders.{find, insert, kept}
use Rattle.book.specs.Books.{new_order, order_after, changed}
use Rattle.book.specs.Sound.{OrderFits}
use Rattle.book.proofs.OrderChanges.{after_fits}
use Rattle.memory_layout.specs.Layout.{count_word}
use Rattle.memory_layout.specs.View.{roster_of, first_of, open_orders}
use Rattle.memory_layout.specs.Stores.{order_in, store_from, joined_first, left_first, Records, rank}
use Rattle.memory_layout.specs.FieldStores.{store_mark}
use Rattle.memory_layout.proofs.ViewOrders.{found_below, change_leaves, change_becomes}
use Rattle.memory_layout.proofs.NamedOrders.{named_joins, named_found}
use Rattle.memory_working.specs.Working.{Ready, new_of, Fitting, order_kept, records_changed, order_changed, worked}
use Rattle.memory_working.proofs.AcceptedFacts.{ChangeFacts, records, accepted_facts}

-- ---- NEW
module _ {m : List ℕ} {id w p : ℕ} (ready : Ready m (new_of id w) p w) where
  pub new_room : Records m × (word_at m count_word < 256) × (p ≡ rank id (open_orders m))
  new_room = (records m ready.held, (accepted_facts m ready.held (new_of id w) ready.accepted).3, ready.named.0)

  pub order_joins : (l x : List ℕ) → l ≡ store_from m (joined_first m p) (insert (order_of id w) (open_orders m))
      → x ≡ store_mark l (packed_account w) → x ≡ worked m (new_of id w)
  unfolding worked order_of
  order_joins l x stored marked =
      marked
      ∙ ap (λ y. store_mark y (packed_account w))
      (stored ∙ named_joins m id p w _ _ _ _ ready.named)

-- the event is the NEW that enters its order
pub new_is : {m : List ℕ} {s : Side} {a i id p w : ℕ} {n : ℤ} → Ready m (New s a i id n) p w → New s a i id n ≡ new_of id w
unfolding new_order
new_is {m} {s} {a} {i} {id} {p} {w} {n} ready =
    let low = (accepted_facts m ready.held (New s a i id n) ready.accepted).2.0 in
    let whole : n ≡ pos (nat_abs n) = omega (signed, magnitude_parts n) in
    ap (New s a i id) whole ∙ sym (ap (λ o. New o.side o.account o.instrument id (pos o.total)) ready.named.1)

-- ---- REPLACE, CANCEL and FILL: the order found becomes another, or leaves
module _ {m : List ℕ} {id w p : ℕ} {c : OrderChange} (ready : Ready m (Change id c) p w) where
  abbrev o : Order
  o = order_of id w

  pub found : find id (open_orders m) ≡ Some o
  found = named_found m id p w c ready.named

  pub change_facts : OrderFits (roster_of m) o × ChangeFacts c o
  change_facts =
      let t = accepted_facts m ready.held (Change id c) ready.accepted in
      let e = t.0.found in
      let same : t.0.order ≡ o = cc (found) in
      (rw same at t.0.fits, rw same at t.1)

  pub fitting : Fitting c w
  fitting =
      let f = change_facts in
      record { id = id; figures = f.1.0; fits = f.1.1; total = f.0.total.1 }

  -- the total stays in range, and no more is filled than it
  pub after_in : ((order_after c o).total ≤ 1000000) × ((order_after c o).filled ≤ (order_after c o).total)
  unfolding remaining
  after_in =
      let f = change_facts in
      after_fits c o (omega (arith, f.0.remains)) f.0.total.1 f.1.0 f.1.1

  pub inside : Records m × (p < word_at m count_word)
  inside = (records m ready.held, found_below m id p ready.named.0)

  -- the memory is what the change makes of that order's record and of its balance
  pub changed_memory : worked m (Change id c) ≡ order_changed m id c (Some o)
  unfolding worked
  changed_memory = rw found

  -- what is kept at the order's place is what the change makes of it
  pub kept_there : {y : Order} → y ≡ order_after c o → order_kept m p y ≡ records_changed m id c o
  unfolding changed kept
  kept_there {y} made =
      let at = ready.named.0 in
      let same : order_in m p ≡ o = sym ready.named.1 in
      rw made (by_test (closes (order_after c o))
      (λ t. rw (t, at) (ap (store_from m (left_first m p)) (sym (change_leaves m id p at (changed c) (rw (same, t) refl)))))
      (λ t. rw t (ap (store_from m (first_of m)) (sym (change_becomes m id p at (changed c) (order_after c o) (rw (same, t) refl))))))
