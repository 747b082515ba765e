-- A list of orders in records, cut at a place: with an order that joins there, leaves there, or becomes another there.
use Rattle.std.specs.Prelude.{◌+◌, ◌-◌, ◌<◌, ◌≡◌, ◌∷◌, ◌++◌}
use Rattle.integers.specs.Basics.{ℕ, zero, suc, refl, ap, List, ltb, set, arith}
use Rattle.ledger.specs.declared.order.Order.{Order}
use Rattle.ledger.specs.Records.{order_at, orders_from}
use Rattle.ledger.proofs.Ways.{by_test}
use Rattle.book.specs.OpenOrders.{insert}
use Rattle.memory_layout.specs.Stores.{rank, without}

module _ (s : List ℕ) (o : Order) where
  -- the orders from record r on, with o at place p among those of n, q of which are behind it
  abbrev with_at : ℕ → ℕ → ℕ → List Order
  with_at r p q = orders_from s r p ++ (o ∷ orders_from s (r + p) q)

  pub cut_insert : (n r : ℕ) → insert o (orders_from s r n) ≡ with_at r (rank o.id (orders_from s r n))
      (n - rank o.id (orders_from s r n))
  unfolding insert rank orders_from
  cut_insert zero r = refl
  cut_insert (suc n) r =
      let p : ℕ = rank o.id (orders_from s (r + 1) n) in
      let none : r + 0 ≡ r = omega arith in
      let all : suc n - 0 ≡ suc n = omega arith in
      let e : r + suc p ≡ r + 1 + p = omega arith in
      let f : suc n - suc p ≡ n - p = omega arith in
      by_test (ltb o.id (order_at s r).id) (λ t. rw (t, none, all))
      (λ t. rw (t, e, f) (ap (λ l. order_at s r ∷ l) (cut_insert n (r + 1))))

  pub cut_set : (p n r : ℕ) → p < n → set (orders_from s r n) p o ≡ orders_from s r p ++ (o ∷ orders_from s (r + p + 1) (n - (p + 1)))
  unfolding orders_from
  cut_set p zero r h = absurd (omega arith)
  cut_set zero (suc n) r h =
      let e : r + 0 ≡ r = omega arith in
      let f : suc n - (0 + 1) ≡ n = omega arith in
      rw (e, f)
  cut_set (suc p) (suc n) r h =
      let e : r + suc p ≡ r + 1 + p = omega arith in
      let f : suc n - (suc p + 1) ≡ n - (p + 1) = omega arith in
      rw (e, f, cut_set p n (r + 1) (omega arith))

pub cut_without : (s : List ℕ) (p n r : ℕ) → p < n
    → without p (orders_from s r n) ≡ orders_from s r p ++ orders_from s (r + p + 1) (n - (p + 1))
unfolding without orders_from
cut_without s p zero r h = absurd (omega arith)
cut_without s zero (suc n) r h =
    let e : r + 0 ≡ r = omega arith in
    let f : suc n - (0 + 1) ≡ n = omega arith in
    rw (e, f)
cut_without s (suc p) (suc n) r h =
    let e : r + suc p ≡ r + 1 + p = omega arith in
    let f : suc n - (suc p + 1) ≡ n - (p + 1) = omega arith in
    rw (e, f, cut_without s p n (r + 1) (omega arith))
