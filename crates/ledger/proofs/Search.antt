-- The search from record p on: what a turn of it finds, which records it may leave out, and what it says of the place that it answers.
use Rattle.std.specs.Prelude.{◌+◌, ◌-◌, ◌≤◌, ◌<◌, ◌≡◌, ◌≢◌}
use Rattle.integers.specs.Basics.{ℕ, zero, suc, refl, ◌∙◌, sym, ap, by_cases, cond, List, Option, None, Some, eqb, ℕ_discrete}
use Rattle.integers.specs.Basics.{arith, eq-eqb, ne_eqb}
use Rattle.ledger.specs.Orders.{place_from}
use Rattle.ledger.specs.Records.{order_at, orders_from}

-- no record from p on and before q has that id
abbrev pub NotIn : List ℕ → ℕ → ℕ → ℕ → Type 0
NotIn m id p q = (k : ℕ) → p ≤ k → k < q → (order_at m k).id ≢ id

module _ (m : List ℕ) (n id : ℕ) where
  -- the first place from p on and before n
  unfoldable pub seek : ℕ → Option ℕ
  seek p = place_from p id (orders_from m p (n - p))

  turn : (p : ℕ) → p < n → seek p ≡ cond (eqb (order_at m p).id id) (Some p) (seek (p + 1))
  unfolding seek place_from orders_from
  turn p h =
      let e : n - p ≡ suc (n - (p + 1)) = omega arith in
      rw e

  pub seek_all : seek 0 ≡ place_from 0 id (orders_from m 0 n)
  unfolding seek
  seek_all = let e : n - 0 ≡ n = omega arith in rw e

  pub seek_end : (p : ℕ) → p ≡ n → seek p ≡ None
  unfolding seek place_from orders_from
  seek_end p h = let e : n - p ≡ 0 = omega arith in rw e

  -- x is the id of record p
  module _ (p x : ℕ) (h : p < n) (read : x ≡ (order_at m p).id) where
    pub seek_here : x ≡ id → seek p ≡ Some p
    seek_here same = turn p h ∙ simp (eq-eqb (order_at m p).id id (sym read ∙ same))

    pub seek_on : x ≢ id → seek p ≡ seek (p + 1)
    seek_on other = turn p h ∙ simp (ne_eqb (order_at m p).id id (λ same. other (read ∙ same)))

  -- records without the id are passed over
  pub passed : (k p : ℕ) → p + k ≤ n → NotIn m id p (p + k) → seek p ≡ seek (p + k)
  passed zero p h none = let e : p + 0 ≡ p = omega arith in rw e
  passed (suc k) p h none =
      let e : p + 1 + k ≡ p + suc k = omega arith in
      seek_on p _ (omega arith) refl (none p (omega arith) (omega arith))
      ∙ passed k (p + 1) (omega arith) (λ q low high. none q (omega arith) (omega arith))
      ∙ ap seek e

  pub seek_nowhere : (p : ℕ) → p ≤ n → NotIn m id p n → seek p ≡ None
  seek_nowhere p h none =
      let e : p + (n - p) ≡ n = omega arith in
      passed (n - p) p (omega arith) (λ q low high. none q low (omega arith)) ∙ seek_end (p + (n - p)) e

-- where no other record has the id, the search may keep to the records from `from` on and before `to`
module _ (m : List ℕ) (id n to : ℕ) (inside : to ≤ n) (after : NotIn m id to n) where
  -- those from `to` on are left out
  cut : (k p : ℕ) → p + k ≡ to → seek m to id p ≡ seek m n id p
  cut zero p e =
      let none = seek_nowhere m n id p (omega arith) (λ q low high. after q (omega arith) high) in
      seek_end m to id p (omega arith) ∙ sym none
  cut (suc k) p e =
      by_cases (ℕ_discrete (order_at m p).id id)
      (λ same. seek_here m to id p _ (omega arith) refl same ∙ sym (seek_here m n id p _ (omega arith) refl same))
      (λ other. seek_on m to id p _ (omega arith) refl other ∙ cut k (p + 1) (omega arith)
      ∙ sym (seek_on m n id p _ (omega arith) refl other))

  pub seek_between : (from : ℕ) → from ≤ to → NotIn m id 0 from → seek m to id from ≡ seek m n id 0
  seek_between from h before =
      let e : 0 + from ≡ from = omega arith in
      cut (to - from) from (omega arith)
      ∙ sym (passed m n id from 0 (omega arith) (λ q low high. before q low (omega arith)) ∙ ap (seek m n id) e)

-- ---- what a caller learns
module _ (m : List ℕ) (id : ℕ) where
  from_place : (n q p : ℕ) → place_from q id (orders_from m q n) ≡ Some p → (p < q + n) × ((order_at m p).id ≡ id)
  unfolding place_from orders_from
  from_place zero q p e = let z : ◌≡◌ {A = ℕ} 0 1 = cc in absurd (omega arith)
  from_place (suc n) q p e =
      by_cases (ℕ_discrete (order_at m q).id id)
      (λ same. let here : q ≡ p = cc (eq-eqb (order_at m q).id id same) in (omega arith, rw (← here) same))
      (λ other. let found = from_place n (q + 1) p (simp (ne_eqb (order_at m q).id id other) at e) in (omega arith, found.1))

  -- the place is one of the n, and its order has the id
  pub found_place : (n p : ℕ) → place_from 0 id (orders_from m 0 n) ≡ Some p → (p < n) × ((order_at m p).id ≡ id)
  found_place n p e =
      let found = from_place n 0 p e in
      (omega arith, found.1)
