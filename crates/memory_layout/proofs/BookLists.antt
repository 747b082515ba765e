-- The book's `change` at a place: an order found at place p leaves, or becomes another.
use Rattle.std.specs.Prelude.{◌+◌, ◌≤◌, ◌≡◌, ◌∷◌}
use Rattle.integers.specs.Basics.{ℕ, zero, suc, ap, List, [], eqb, set, arith, Some}
use Rattle.ledger.specs.declared.order.Order.{Order}
use Rattle.ledger.specs.Orders.{place_from}
use Rattle.ledger.specs.Records.{orders_from}
use Rattle.ledger.proofs.Ways.{by_test}
use Rattle.book.specs.OpenOrders.{change}
use Rattle.memory_layout.specs.Stores.{order_in, orders_in, without}

-- a place that was found is not before the first
pub place_from_lem : (id q p : ℕ) (os : List Order) → place_from q id os ≡ Some p → q ≤ p
unfolding place_from
place_from_lem id q p [] e = let z : ◌≡◌ {A = ℕ} 0 1 = cc in absurd (omega arith)
place_from_lem id q p (o ∷ os) e =
    by_test (eqb o.id id) (λ t. let here : Some q ≡ Some p = rw t at e in let same : q ≡ p = cc in omega arith)
    (λ t. omega (arith, place_from_lem id (q + 1) p os (rw t at e)))

module _ (m : List ℕ) (id : ℕ) (f : Order → List Order) where
  -- the order at place p leaves
  pub leaving : (n q p : ℕ) → place_from q id (orders_in m q n) ≡ Some (q + p) → f (order_in m (q + p)) ≡ []
      → change id f (orders_in m q n) ≡ without p (orders_in m q n)
  unfolding place_from change without orders_from
  leaving zero q p e gone = let z : ◌≡◌ {A = ℕ} 0 1 = cc in absurd (omega arith)
  leaving (suc n) q zero e gone =
      let z : q + 0 ≡ q = omega arith in
      let none_left : f (order_in m q) ≡ [] = rw z at gone in
      by_test (eqb (order_in m q).id id) (λ t. rw (t, none_left))
      (λ t. absurd (omega (arith, place_from_lem id (q + 1) (q + 0) (orders_in m (q + 1) n) (rw t at e))))
  leaving (suc n) q (suc p) e gone =
      let s : q + suc p ≡ q + 1 + p = omega arith in
      by_test (eqb (order_in m q).id id)
      (λ t. let here : Some q ≡ Some (q + suc p) = rw t at e in let same : q ≡ q + suc p = cc in absurd (omega arith))
      (λ t. rw t (ap (λ l. order_in m q ∷ l) (leaving n (q + 1) p (rw (t, s) at e) (rw s at gone))))

  -- the order at place p becomes another
  pub becoming : (y : Order) (n q p : ℕ) → place_from q id (orders_in m q n) ≡ Some (q + p) → f (order_in m (q + p)) ≡ y ∷ []
      → change id f (orders_in m q n) ≡ set (orders_in m q n) p y
  unfolding place_from change orders_from
  becoming y zero q p e new = let z : ◌≡◌ {A = ℕ} 0 1 = cc in absurd (omega arith)
  becoming y (suc n) q zero e new =
      let z : q + 0 ≡ q = omega arith in
      let here : f (order_in m q) ≡ y ∷ [] = rw z at new in
      by_test (eqb (order_in m q).id id) (λ t. rw (t, here))
      (λ t. absurd (omega (arith, place_from_lem id (q + 1) (q + 0) (orders_in m (q + 1) n) (rw t at e))))
  becoming y (suc n) q (suc p) e new =
      let s : q + suc p ≡ q + 1 + p = omega arith in
      by_test (eqb (order_in m q).id id)
      (λ t. let here : Some q ≡ Some (q + suc p) = rw t at e in let same : q ≡ q + suc p = cc in absurd (omega arith))
      (λ t. rw t (ap (λ l. order_in m q ∷ l) (becoming y n (q + 1) p (rw (t, s) at e) (rw s at new))))
