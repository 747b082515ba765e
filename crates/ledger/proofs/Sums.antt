-- The sums of open orders, `open_on`: what an order adds, and what a change of the list changes. They depend on the list
-- only through sums over it, so that where in the list a change happens, and the list's order, make no difference.
use Rattle.std.specs.Prelude.{◌≡◌, ◌∷◌, ◌++◌, ◌+ℤ◌, ◌≤ℤ◌}
use Rattle.integers.specs.Basics.{ℕ, refl, ◌∙◌, List, [], ListMemᴰ, ℤ, pos, signed, sum_parts}
use Rattle.integers.specs.Sum.{sum_over, sum_over_cons, sum_over_append, sum_over_nonneg, sum_over_zero}
use Rattle.ledger.specs.declared.order.Order.{Order}
use Rattle.ledger.specs.declared.order.Side.{Side}
use Rattle.ledger.specs.Orders.{remaining}
use Rattle.ledger.specs.Positions.{open_on}
use Rattle.ledger.proofs.Amounts.{amount, Stands, amount_apart, amount_nonneg}
use Rattle.ledger.proofs.Linear.{linear}

-- ---- how two lists of orders may differ
-- orders' is orders with o joined to it, at any place; read the other way, o has left
abbrev pub Joined : Order → List Order → List Order → Type 0
Joined o orders orders' = (h : Order → ℤ) → sum_over h orders' ≡ h o +ℤ sum_over h orders

-- orders' is orders where o became o'
abbrev pub Changed : Order → Order → List Order → List Order → Type 0
Changed o o' orders orders' = (h : Order → ℤ) → sum_over h orders' +ℤ h o ≡ h o' +ℤ sum_over h orders

-- orders' is orders in another order
pub data Permuted : List Order → List Order → Type 0 where
  nothing : Permuted [] []
  keep : {o : Order} {xs ys : List Order} → Permuted xs ys → Permuted (o ∷ xs) (o ∷ ys)
  swap : {o o' : Order} {xs : List Order} → Permuted (o ∷ (o' ∷ xs)) (o' ∷ (o ∷ xs))
  chain : {xs ys zs : List Order} → Permuted xs ys → Permuted ys zs → Permuted xs zs

pub sum_permuted : {xs ys : List Order} (h : Order → ℤ) → Permuted xs ys → sum_over h ys ≡ sum_over h xs
sum_permuted h nothing = refl
sum_permuted h (keep {o} {xs} {ys} p) = cc (sum_permuted h p, sum_over_cons h o xs, sum_over_cons h o ys)
sum_permuted h (swap {o} {o'} {xs}) =
    let s = sum_over h xs in
    simp sum_over_cons (omega (signed, sum_parts (h o) s, sum_parts (h o') s, sum_parts (h o) (h o' +ℤ s), sum_parts (h o') (h o +ℤ s)))
sum_permuted h (chain p q) = sum_permuted h q ∙ sum_permuted h p

pub joined_between : (o : Order) (xs ys : List Order) → Joined o (xs ++ ys) (xs ++ (o ∷ ys))
joined_between o xs ys h =
    let s = sum_over h xs in
    let t = sum_over h ys in
    simp (sum_over_append, sum_over_cons) (omega (
      signed,
      sum_parts s (h o +ℤ t),
      sum_parts (h o) t,
      sum_parts s t,
      sum_parts (h o) (s +ℤ t),
    ))

pub changed_between : (o o' : Order) (xs ys : List Order) → Changed o o' (xs ++ (o ∷ ys)) (xs ++ (o' ∷ ys))
changed_between o o' xs ys h =
    omega (linear, joined_between o xs ys h, joined_between o' xs ys h)

-- ---- the sums
module _ (unit : Order → ℕ) (s : Side) (a i : ℕ) where
  -- the amount that the order adds
  abbrev pub adds : Order → ℤ
  adds o = amount unit s a i o (remaining o)

  pub open_sum : (orders : List Order) → open_on unit orders s a i ≡ sum_over adds orders
  unfolding open_on amount
  open_sum orders = refl

  pub open_none : open_on unit [] s a i ≡ pos 0
  unfolding open_on sum_over
  open_none = refl

  pub open_cons : (o : Order) (orders : List Order) → open_on unit (o ∷ orders) s a i ≡ adds o +ℤ open_on unit orders s a i
  open_cons o orders = simp (open_sum, sum_over_cons)

  pub open_nonneg : (orders : List Order) → pos 0 ≤ℤ open_on unit orders s a i
  open_nonneg orders = rw open_sum (sum_over_nonneg adds orders (λ o m. amount_nonneg unit s a i o (remaining o)))

  pub open_nowhere : (orders : List Order) → ((o : Order) → ListMemᴰ o orders → ¬ Stands s a i o) → open_on unit orders s a i ≡ pos 0
  open_nowhere orders h = rw open_sum (sum_over_zero adds orders (λ o m. amount_apart unit s a i o (remaining o) (h o m)))

  pub open_joined : (o : Order) (orders orders' : List Order) → Joined o orders orders'
      → open_on unit orders' s a i ≡ adds o +ℤ open_on unit orders s a i
  open_joined o orders orders' j = simp open_sum (j adds)

  pub open_changed : (o o' : Order) (orders orders' : List Order) → Changed o o' orders orders'
      → open_on unit orders' s a i +ℤ adds o ≡ adds o' +ℤ open_on unit orders s a i
  open_changed o o' orders orders' c = simp open_sum (c adds)
