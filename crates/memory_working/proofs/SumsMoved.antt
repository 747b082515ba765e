-- B and V after an accepted event of an order: what counts of that order is another number, as the book says it, and no other sum changes.
use Rattle.std.specs.Prelude.{◌^◌, ◌≤◌, ◌<◌, ◌≡◌}
use Rattle.integers.specs.Basics.{ℕ, sym, ap, subst, List, pos, arith}
use native.Mathlib.Nat.{one-mul}
use Rattle.words.specs.Bytes.{Bytes}
use Rattle.ledger.specs.declared.order.Order.{Order}
use Rattle.ledger.specs.declared.order.Side.{Side}
use Rattle.ledger.specs.Orders.{remaining}
use Rattle.ledger.specs.Records.{order_of}
use Rattle.ledger.specs.Derivatives.{one}
use Rattle.ledger.proofs.Amounts.{amount}
use Rattle.ledger.proofs.Changes.{CountChanged}
use Rattle.limits.specs.Raised.{added_on}
use Rattle.book.specs.declared.OrderChange.{OrderChange}
use Rattle.book.specs.declared.Setting.{Setting}
use Rattle.book.specs.declared.Event.{Event}
use Rattle.book.specs.declared.Event.TheVariants.{Set, Change}
use Rattle.book.specs.Market.{market_of_kind}
use Rattle.book.specs.Books.{order_after, book_after}
use Rattle.book.specs.States.{work}
use Rattle.book.proofs.Shifts.{new_shift, change_shift}
use Rattle.memory_layout.specs.View.{market_of, open_orders, book_of, view}
use Rattle.memory_layout.specs.Judged.{judged}
use Rattle.memory_soundness.specs.Cells.{Sums}
use Rattle.memory_soundness.specs.SoundMemory.{SoundMemory}
use Rattle.memory_working.specs.Working.{Ready, new_of, worked}
use Rattle.memory_working.specs.SumsChanged.{SumsChanged}
use Rattle.memory_working.proofs.Handing.{accepted_as}
use Rattle.memory_working.proofs.Small.{Sized}
use Rattle.memory_working.proofs.AcceptedFacts.{accepted_facts}
use Rattle.memory_working.proofs.ViewWorked.{view_worked}
use Rattle.memory_working.proofs.Changing.{found, after_in}

pub same_amount : (n : ℕ) (o : Order) (s : Side) (a i : ℕ) → amount one s a i o n ≡ added_on n o s a i
unfolding amount added_on one
same_amount n o s a i = simp one-mul

pub remaining_most : (o : Order) → remaining o ≤ o.total
unfolding remaining
remaining_most o = omega arith

-- the open orders after the event
pub after_event_lem : (m : List ℕ) → Bytes m → SoundMemory m → (e : Event) → Sized e → judged m e ≡ 0
    → open_orders (worked m e) ≡ (work (view m) e).book.orders
unfolding book_of
after_event_lem m bytes held e sized accepted = ap (λ v. v.book.orders) (view_worked m bytes held e sized accepted)

-- the book's change of what counts, told of the memory
told : {m : List ℕ} → Bytes m → SoundMemory m → (e : Event) → Sized e → judged m e ≡ 0 → (o : Order) (x y : ℕ) → y ≤ 1000000
    → CountChanged (market_of m).unit o x y (open_orders m) (work (view m) e).book.orders
    → SumsChanged o x y (open_orders m) (open_orders (worked m e))
unfolding market_of_kind
told {m} bytes held e sized accepted o x y small shift =
    record {
      small = small;
      sums = λ s a i.
          rw (after_event_lem m bytes held e sized accepted, ← same_amount x o s a i, ← same_amount y o s a i) (shift.sums s a i);
    }

-- NEW: the quantity comes to count
pub new_sums : {m : List ℕ} {id w p n : ℕ} → Bytes m → id < 2 ^ 64 → Ready m (new_of id w) p w → n ≡ remaining (order_of id w)
    → SumsChanged (order_of id w) 0 n (open_orders m) (open_orders (worked m (new_of id w)))
unfolding book_of
new_sums {m} {id} {w} bytes word ready counts =
    let e = new_of id w in
    let o = order_of id w in
    let after = (work (view m) e).book.orders in
    let own : CountChanged (market_of m).unit o 0 (remaining o) (open_orders m) after =
    subst (λ (x : Order). CountChanged (market_of m).unit x 0 (remaining x) (open_orders m) after) (sym ready.named.1)
    (new_shift (view m) o.side o.account o.instrument id (pos o.total)) in
    rw counts (told bytes ready.held e word ready.accepted o 0 (remaining o)
    (omega (arith, remaining_most o, (accepted_facts m ready.held e ready.accepted).2.1.1)) own)

-- REPLACE, CANCEL and FILL: what remains of the order after the change counts
pub change_sums : {m : List ℕ} {id w p n n' : ℕ} {c : OrderChange} {after : Order} → Bytes m → Ready m (Change id c) p w
    → n ≡ remaining (order_of id w) → after ≡ order_after c (order_of id w) → n' ≡ remaining after
    → SumsChanged (order_of id w) n n' (open_orders m) (open_orders (worked m (Change id c)))
unfolding book_of
change_sums {m} {id} {w} {c = c} bytes ready counted made counts =
    let o = order_of id w in
    let most : remaining (order_after c o) ≤ 1000000 = omega (arith, remaining_most (order_after c o), after_in ready) in
    rw (counted, counts, made) (told bytes ready.held (Change id c) tt ready.accepted o (remaining o) _ most
    (change_shift (view m) id o (found ready) c))

-- a setting leaves the open orders as they are; it is worked under the name that the match gives it
pub setting_sums : {m cells l : List ℕ} {e : Event} {x : Setting} {p w : ℕ} → Bytes m → e ≡ Set x → Ready m e p w → l ≡ worked m (Set x)
    → Sums cells (open_orders m) → Sums cells (open_orders l)
unfolding book_of book_after
setting_sums {m} {x = x} bytes same ready stored sums =
    let r = accepted_as same ready in
    rw (stored, after_event_lem m bytes r.held (Set x) tt r.accepted) sums
