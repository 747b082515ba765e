-- Ids of the open orders: they stay strictly ascending, so each names at most one order, and an order is found by its id
-- wherever it stands.
use Rattle.std.specs.Prelude.{◌≤◌, ◌<◌, ◌≡◌, ◌⊎◌, ◌↔◌, ◌≢◌, ◌∷◌, ◌++◌}
use Rattle.integers.specs.Basics.{ℕ, refl, ap, inl, inr, ⊎_elim, Bool, true, false, cond, List, []}
use Rattle.integers.specs.Basics.{ListMemᴰ, ListMemᴰ_head, ListMemᴰ_tail, ListMemᴰ_not_nil, Some, eqb, arith, eqb-true}
use Rattle.integers.specs.Basics.{eqb-false, eq-eqb, ne_eqb}
use mathlib.Core.List.Memᴰ
use Rattle.ledger.specs.declared.order.Order.{Order}
use Rattle.ledger.specs.Orders.{closes}
use Rattle.ledger.proofs.Ways.{by_number, by_test}
use Rattle.book.specs.declared.OrderChange.{OrderChange}
use Rattle.book.specs.OpenOrders.{find, change, kept}
use Rattle.book.specs.Books.{order_after, changed}
use Rattle.book.specs.Sound.{Ascending, nothing, next}
use Rattle.book.proofs.OrderChanges.{same_order}

-- what a change makes of an order: nothing, or an order of the same id
pub data Became (o : Order) : List Order → Type 0 where
  gone : Became o []
  became : {o' : Order} → o'.id ≡ o.id → Became o (o' ∷ [])

pub changed_became : (c : OrderChange) (o : Order) → Became o (changed c o)
unfolding changed kept
changed_became c o = by_test (closes (order_after c o)) (λ t. rw t gone) (λ t. rw t (became (same_order c o).id))

-- ---- ascending
pub ascending_from : {m n : ℕ} {os : List Order} → m ≤ n → Ascending n os → Ascending m os
ascending_from l nothing = nothing
ascending_from {m} l (next {o} h a) = next {least = m} {o = o} (omega arith) a

pub ascending_above : {least : ℕ} {os : List Order} → Ascending least os → (x : Order) → ListMemᴰ x os → least < x.id
ascending_above nothing x m = absurd (ListMemᴰ_not_nil m)
ascending_above (next {least} {o} {os} h a) x m =
    ⊎_elim (λ e. rw e h) (λ k. let l = ascending_above a x k in omega arith) (Memᴰ.cases_cons m)

-- ---- find
-- the order that is found is the member with that id: where it stands makes no difference
pub find_member : {least : ℕ} {os : List Order} → Ascending least os → (n : ℕ) (o : Order) → (find n os ≡ Some o)
    ↔ (ListMemᴰ o os × (o.id ≡ n))
unfolding find
find_member nothing n o =
    (λ e. cc, λ h. absurd (ListMemᴰ_not_nil h.0))
find_member (next {o = x} {os} l a) n o =
    by_number x.id n (λ t. (cond t (Some x) (find n os) ≡ Some o) ↔ (ListMemᴰ o (x ∷ os) × (o.id ≡ n))) here
    (there (find_member a n o))
  where
    here : x.id ≡ n → (Some x ≡ Some o) ↔ (ListMemᴰ o (x ∷ os) × (o.id ≡ n))
    here d = (
      λ e. let same : o ≡ x = cc in (ListMemᴰ_head same, rw same d),
      λ h. ⊎_elim (λ same. rw same) (λ m. let above = ascending_above a o m in absurd (omega (arith, h.1))) (Memᴰ.cases_cons h.0),
    )

    there : (find n os ≡ Some o) ↔ (ListMemᴰ o os × (o.id ≡ n)) → x.id ≢ n → (find n os ≡ Some o) ↔ (ListMemᴰ o (x ∷ os) × (o.id ≡ n))
    there rest apart = (
      λ e. (ListMemᴰ_tail (rest.0 e).0, (rest.0 e).1),
      λ h. ⊎_elim (λ same. absurd (apart (rw (← same) h.1))) (λ m. rest.1 (m, h.1)) (Memᴰ.cases_cons h.0),
    )

-- ---- an order changes
pub change_ascending : {least : ℕ} {os : List Order} → Ascending least os → (id : ℕ) (f : Order → List Order)
    → ((o : Order) → Became o (f o)) → Ascending least (change id f os)
unfolding change
change_ascending nothing id f b = nothing
change_ascending (next {least} {o = x} {os} h a) id f b = by (eqb x.id id) (f x) (b x) (change_ascending a id f b)
  where
    by : (t : Bool) (l : List Order) → Became x l → Ascending x.id (change id f os)
        → Ascending least (cond t (l ++ os) (x ∷ change id f os))
    by true l gone rest = ascending_from (omega arith) a
    by true l (became {o'} e) rest = next {least = least} {o = o'} {os = os} (omega arith) (rw e a)
    by false l c rest = next h rest

-- the members after it are what the order became and the others, none of which has its id
pub change_exactly : {least : ℕ} {os : List Order} → Ascending least os → (id : ℕ) (f : Order → List Order) (o : Order)
    → find id os ≡ Some o → (x : Order) → ListMemᴰ x (change id f os) ↔ (ListMemᴰ x (f o) ⊎ (ListMemᴰ x os × (x.id ≢ id)))
unfolding change find
change_exactly nothing id f o e x = cc
change_exactly (next {o = y} {os} h a) id f o e x =
    by_test (eqb y.id id)
    (λ d.
    let here = eqb-true y.id id d in
    let there = rw d at e in
    let same : y ≡ o = cc in
    rw (d, ← same) (
      λ m. ⊎_elim (λ k. inl k) (λ k. let l = ascending_above a x k in inr (ListMemᴰ_tail k, λ c. omega arith))
          (Memᴰ.append_cases (f y) m),
      ⊎_elim (λ k. Memᴰ.append_left os k)
          (λ k. ⊎_elim (λ c. absurd (k.1 (rw c here))) (λ m. Memᴰ.append_right (f y) m) (Memᴰ.cases_cons k.0)),
    ))
    (λ d.
    let apart = eqb-false y.id id d in
    let rest = change_exactly a id f o (rw d at e) x in
    rw d (
      λ m. ⊎_elim (λ c. inr (ListMemᴰ_head c, rw c apart))
          (λ k. ⊎_elim (λ u. inl u) (λ u. inr (ListMemᴰ_tail u.0, u.1)) (rest.0 k)) (Memᴰ.cases_cons m),
      ⊎_elim (λ k. ListMemᴰ_tail (rest.1 (inl k)))
          (λ k. ⊎_elim (λ c. ListMemᴰ_head c) (λ u. ListMemᴰ_tail (rest.1 (inr (u, k.1)))) (Memᴰ.cases_cons k.0)),
    ))

-- ---- a list whose cut is known
pub ascending_before : {least : ℕ} (front : List Order) (o : Order) (back : List Order) → Ascending least (front ++ (o ∷ back))
    → (x : Order) → ListMemᴰ x front → x.id < o.id
ascending_before [] o back a x m = absurd (ListMemᴰ_not_nil m)
ascending_before (y ∷ front) o back (next h a) x m =
    ⊎_elim (λ e. rw e (ascending_above a o (Memᴰ.append_right front (ListMemᴰ_head refl)))) (ascending_before front o back a x)
    (Memᴰ.cases_cons m)

pub change_between : (f : Order → List Order) (front : List Order) (o : Order) (back : List Order)
    → ((x : Order) → ListMemᴰ x front → x.id < o.id) → change o.id f (front ++ (o ∷ back)) ≡ front ++ (f o ++ back)
unfolding change
change_between f [] o back h = rw (eq-eqb o.id o.id refl)
change_between f (x ∷ front) o back h =
    let l = h x (ListMemᴰ_head refl) in
    rw (ne_eqb x.id o.id (λ e. omega arith)) (ap (λ xs. x ∷ xs) (change_between f front o back (λ y m. h y (ListMemᴰ_tail m))))
