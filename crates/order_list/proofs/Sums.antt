-- What the orders at the first places of a list count for, place by place.
use Rattle.std.specs.Prelude.{◌+◌, ◌≤◌, ◌≡◌}
use Rattle.std.specs.List.{sum_by}
use Rattle.std.proofs.lemmas.List.Sums.{sum_by_more}
use Rattle.integers.specs.Basics.{ℕ, zero, suc, refl, ◌∙◌, sym, List, length, take, arith}
use Rattle.std.proofs.Common.{take_all}
use native.Mathlib.Numerals.{add-one}
use Rattle.ledger.specs.declared.order.Order.{Order}
use Rattle.ledger.specs.declared.order.Side.{Side}
use Rattle.ledger.specs.Derivatives.{counted}
use Rattle.order_list.specs.OrderList.{no_order, order_in, counted_to}

module _ (orders : List Order) (s : Side) (a i : ℕ) where
  pub counted_none : counted_to orders 0 s a i ≡ 0
  unfolding counted_to
  counted_none = refl

  pub counted_next : (p : ℕ) → counted_to orders p s a i + counted (order_in orders p) s a i ≡ counted_to orders (p + 1) s a i
  unfolding counted_to
  counted_next p = rw add-one

  -- it is the sum of what each counts for
  pub counted_sum : (n : ℕ) → n ≤ length orders → sum_by (λ o. counted o s a i) (take n orders) ≡ counted_to orders n s a i
  unfolding counted_to
  counted_sum zero h = refl
  counted_sum (suc n) h =
      let more = rw add-one at (sum_by_more (λ o. counted o s a i) orders n no_order (omega arith)) in
      more ∙ rw (counted_sum n (omega arith))

pub counted_whole : (orders : List Order) (s : Side) (a i : ℕ)
    → sum_by (λ o. counted o s a i) orders ≡ counted_to orders (length orders) s a i
counted_whole orders s a i = rw (take_all (length orders) orders (omega arith)) at (counted_sum orders s a i (length orders) (omega arith))

-- the first n orders count for what the first n places do
pub counted_front : (orders : List Order) (n : ℕ) → n ≤ length orders → (s : Side) (a i : ℕ)
    → counted_to (take n orders) (length (take n orders)) s a i ≡ counted_to orders n s a i
counted_front orders n h s a i = sym (counted_whole (take n orders) s a i) ∙ counted_sum orders s a i n h
