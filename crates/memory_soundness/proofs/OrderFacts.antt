-- The orders' conditions as facts of the list of open orders, and back.
use Rattle.std.specs.Prelude.{◌+◌, ◌≤◌, ◌<◌, ◌≡◌, ◌∷◌}
use Rattle.integers.specs.Basics.{ℕ, zero, suc, refl, by_cases, ⊎_elim, Bool, true, List, [], ListMemᴰ}
use Rattle.integers.specs.Basics.{ListMemᴰ_head, ListMemᴰ_tail, ListMemᴰ_not_nil, ltb, ℕ_discrete, arith, ltb-true, lt-ltb}
use mathlib.Core.List.Memᴰ
use Rattle.ledger.specs.declared.order.Order.{Order}
use Rattle.ledger.specs.Roster.{Roster}
use Rattle.ledger.specs.Records.{order_at, orders_from}
use Rattle.limits.proofs.Answers.{both_true, and_true}
use Rattle.book.specs.Sound.{Ascending, nothing, next}
use Rattle.memory_soundness.specs.Soundness.{ascend, order_sound, records_sound}
use Rattle.memory_soundness.proofs.Records.{Fit, order_out, order_in_lem}

-- ---- ids
pub ascend_out : (least : ℕ) (os : List Order) → ascend least os ≡ true → Ascending least os
unfolding ascend
ascend_out least [] e = nothing
ascend_out least (o ∷ os) e =
    let both = both_true (ltb least o.id) (ascend o.id os) e in
    next (ltb-true least o.id both.0) (ascend_out o.id os both.1)

pub ascend_in : {least : ℕ} {os : List Order} → Ascending least os → ascend least os ≡ true
unfolding ascend
ascend_in nothing = refl
ascend_in (next {least} {o} {os} l a) = and_true (ltb least o.id) (ascend o.id os) (lt-ltb least o.id l) (ascend_in a)

-- ---- the list of n records from record p on
module _ (s : List ℕ) where
  pub order_member : (p n q : ℕ) → p ≤ q → q < p + n → ListMemᴰ (order_at s q) (orders_from s p n)
  unfolding orders_from
  order_member p zero q h l = absurd (omega arith)
  order_member p (suc n) q h l =
      by_cases (ℕ_discrete q p) (λ same. let e : order_at s q ≡ order_at s p = rw same in ListMemᴰ_head e)
      (λ apart. ListMemᴰ_tail (order_member (p + 1) n q (omega (arith, apart)) (omega arith)))

  pub each_member : (P : Order → Type 0) (p n : ℕ) → ((q : ℕ) → p ≤ q → q < p + n → P (order_at s q)) → (o : Order)
      → ListMemᴰ o (orders_from s p n) → P o
  unfolding orders_from
  each_member P p zero h o k = absurd (ListMemᴰ_not_nil k)
  each_member P p (suc n) h o k =
      ⊎_elim (λ e. rw e (h p (omega arith) (omega arith))) (each_member P (p + 1) n (λ q a b. h q (omega arith) (omega arith)) o)
      (Memᴰ.cases_cons k)

  -- ---- what is asked of each
  module _ (r : Roster) (trading : ℕ → Bool) where
    pub records_out : (p n : ℕ) → records_sound r trading s p n ≡ true → (q : ℕ) → p ≤ q → q < p + n → Fit r trading (order_at s q)
    unfolding records_sound
    records_out p zero e q h l = absurd (omega arith)
    records_out p (suc n) e q h l =
        let both = both_true (order_sound r trading (order_at s p)) (records_sound r trading s (p + 1) n) e in
        by_cases (ℕ_discrete q p) (λ same. rw same (order_out r trading (order_at s p) both.0))
        (λ apart. records_out (p + 1) n both.1 q (omega (arith, apart)) (omega arith))

    pub records_in_lem : (p n : ℕ) → ((q : ℕ) → p ≤ q → q < p + n → Fit r trading (order_at s q)) → records_sound r trading s p n ≡ true
    unfolding records_sound
    records_in_lem p zero h = refl
    records_in_lem p (suc n) h =
        and_true (order_sound r trading (order_at s p)) (records_sound r trading s (p + 1) n)
        (order_in_lem r trading (order_at s p) (h p (omega arith) (omega arith)))
        (records_in_lem (p + 1) n (λ q a b. h q (omega arith) (omega arith)))
