-- B and V order by order: what an order counts for, and what is left to count from place p on.
use Rattle.std.specs.Prelude.{◌+◌, ◌*◌, ◌≤◌, ◌<◌, ◌≡◌, ◌≢◌, ◌&&◌, ◌∷◌, ◌+ℤ◌}
use Rattle.integers.specs.Basics.{ℕ, zero, suc, refl, ap, true, false, List, ℤ, pos, nat_abs, length, get_or, drop}
use Rattle.std.proofs.lemmas.List.{drop_more, drop_all}
use Rattle.integers.specs.Basics.{arith, eq-eqb, ne_eqb, magnitude_parts}
use mathlib.Core.Bool.{and-false}
use native.Mathlib.Nat.{one-mul}
use denote.Enum.Bare.{sameb}
use Rattle.integers.specs.Magnitude.{magnitude_sum}
use Rattle.ledger.specs.contracts.order.Side.{the_type}
use Rattle.ledger.specs.declared.order.Order.{Order}
use Rattle.ledger.specs.declared.order.Side.{Side}
use Rattle.ledger.specs.declared.order.Side.TheVariants.{Buy, Sell}
use Rattle.ledger.specs.Orders.{remaining}
use Rattle.ledger.specs.Positions.{same_side, stands_in, open_on}
use Rattle.ledger.specs.Records.{order_at, orders_from}
use Rattle.ledger.specs.Derivatives.{one, counted}
use Rattle.ledger.proofs.Ways.{by_test}
use Rattle.ledger.proofs.Amounts.{amount}
use Rattle.ledger.proofs.Sums.{open_none, open_cons, open_nonneg}
use Rattle.ledger.proofs.Linear.{linear}

-- `==` of two sides tests what the definition tests
pub sides_test : (a b : Side) → sameb the_type a b ≡ same_side a b
sides_test Buy Buy = refl
sides_test Buy Sell = refl
sides_test Sell Buy = refl
sides_test Sell Sell = refl

module _ (o : Order) (s : Side) (a i : ℕ) where
  pub counted_other_account : o.account ≢ a → counted o s a i ≡ 0
  unfolding counted stands_in
  counted_other_account other = simp (ne_eqb o.account a other, and-false)

  pub counted_other_instrument : o.instrument ≢ i → counted o s a i ≡ 0
  unfolding counted stands_in
  counted_other_instrument other = simp (ne_eqb o.instrument i other, and-false)

  pub counted_other_side : same_side o.side s ≡ false → counted o s a i ≡ 0
  unfolding counted
  counted_other_side other = simp other

  pub counted_own : o.account ≡ a → o.instrument ≡ i → same_side o.side s ≡ true → counted o s a i ≡ remaining o
  unfolding counted stands_in
  counted_own account instrument side = simp (side, eq-eqb o.account a account, eq-eqb o.instrument i instrument)

  pub open_more : (os : List Order) → open_on one (o ∷ os) s a i ≡ pos (counted o s a i) +ℤ open_on one os s a i
  unfolding counted amount one
  open_more os =
      let number : amount one s a i o (remaining o) ≡ pos (counted o s a i) =
      by_test (same_side o.side s && stands_in a i o) (λ t. rw (t, one-mul)) (λ t. rw t) in
      rw (open_cons one s a i o os, number)

module _ (os : List Order) (s : Side) (a i : ℕ) where
  -- B or V of the orders from place p on
  pub left : ℕ → ℤ
  left p = open_on one (drop p os) s a i

  left_turn : (p : ℕ) (o : Order) → p < length os → get_or os p o ≡ o → left p ≡ pos (counted o s a i) +ℤ left (p + 1)
  unfolding left
  left_turn p o h here = rw (drop_more os p o h, here) (open_more o s a i (drop (p + 1) os))

  -- what is counted, with what is left, makes the whole
  pub counted_more : (x p r : ℕ) (o : Order) → p < length os → get_or os p o ≡ o → r ≡ counted o s a i → pos x +ℤ left p ≡ left 0
      → pos (x + r) +ℤ left (p + 1) ≡ left 0
  counted_more x p r o h here e whole =
      let turn : left p ≡ pos r +ℤ left (p + 1) = rw e (left_turn p o h here) in
      omega linear

  pub counted_all : (x p : ℕ) → length os ≤ p → pos x +ℤ left p ≡ left 0 → pos x ≡ open_on one os s a i
  unfolding left
  counted_all x p h whole =
      let end : left p ≡ pos 0 = rw (drop_all p os h) (open_none one s a i) in
      omega linear

  -- and is no more than the whole
  pub counted_small : (x p most : ℕ) → pos x +ℤ left p ≡ left 0 → nat_abs (open_on one os s a i) ≤ most → x ≤ most
  unfolding left
  counted_small x p most whole small =
      let more = open_nonneg one s a i (drop p os) in
      omega (linear, magnitude_parts (open_on one os s a i))

counted_most : (o : Order) (s : Side) (a i : ℕ) → counted o s a i ≤ remaining o
unfolding counted
counted_most o s a i = by_test (same_side o.side s && stands_in a i o) (λ t. rw t (omega arith)) (λ t. rw t (omega arith))

small_from : (m : List ℕ) (most : ℕ) (s : Side) (a i n p : ℕ) → ((q : ℕ) → q < p + n → remaining (order_at m q) ≤ most)
    → nat_abs (open_on one (orders_from m p n) s a i) ≤ n * most
unfolding orders_from
small_from m most s a i zero p small = rw (open_none one s a i) (omega arith)
small_from m most s a i (suc n) p small =
    let o = order_at m p in
    let rest = open_on one (orders_from m (p + 1) n) s a i in
    omega (
      arith,
      ap nat_abs (open_more o s a i (orders_from m (p + 1) n)),
      magnitude_sum (pos (counted o s a i)) rest,
      counted_most o s a i,
      small p (omega arith),
      small_from m most s a i n (p + 1) (λ q h. small q (omega arith)),
    )

-- where what remains of each of the n orders is small, so are B and V
pub small_orders : (m : List ℕ) (n most : ℕ) → ((p : ℕ) → p < n → remaining (order_at m p) ≤ most) → (s : Side) (a i : ℕ)
    → nat_abs (open_on one (orders_from m 0 n) s a i) ≤ n * most
small_orders m n most small s a i = small_from m most s a i n 0 (λ q h. small q (omega arith))
