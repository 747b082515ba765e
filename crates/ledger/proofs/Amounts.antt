-- Amounts: what n contracts of one order count for on a side of an account and instrument. Each open order adds its
-- amount to a sum, and each fill moves a balance by its amount.
use Rattle.std.specs.Prelude.{◌+◌, ◌*◌, ◌≤◌, ◌≡◌, ◌&&◌, ◌+ℤ◌, ◌-ℤ◌, ◌≤ℤ◌}
use Rattle.integers.specs.Basics.{ℕ, refl, by_cases, Bool, true, false, cond, ℤ, pos, neg_ℤ, eqb}
use Rattle.integers.specs.Basics.{signed, negation_parts, difference_parts}
use native.Mathlib.Nat.{mul-le-mul_left}
use Rattle.ledger.specs.declared.order.Order.{Order}
use Rattle.ledger.specs.declared.order.Side.{Side}
use Rattle.ledger.specs.declared.order.Side.TheVariants.{Buy, Sell}
use Rattle.ledger.specs.Positions.{Way, long, short, opposite, toward, way_of, side_to, same_side, stands_in}
use Rattle.ledger.specs.Fillings.{fill_moves}
use Rattle.ledger.proofs.Ways.{by_side, by_number}

-- unit o times n where the order stands in account a and instrument i on side s, else 0
unfoldable pub amount : (Order → ℕ) → Side → ℕ → ℕ → Order → ℕ → ℤ
amount unit s a i o n = cond (same_side o.side s && stands_in a i o) (pos (unit o * n)) (pos 0)

abbrev pub Stands : Side → ℕ → ℕ → Order → Type 0
Stands s a i o = (o.side ≡ s) × (o.account ≡ a) × (o.instrument ≡ i)

-- ---- where the order stands, and elsewhere
by_place : (a i : ℕ) (o : Order) (P : Bool → Type 0) → (o.account ≡ a → o.instrument ≡ i → P true)
    → (¬ ((o.account ≡ a) × (o.instrument ≡ i)) → P false) → P (stands_in a i o)
unfolding stands_in
by_place a i o P here apart =
    by_number o.account a (λ t. P (t && eqb o.instrument i))
    (λ d. by_number o.instrument i P (here d) (λ n. apart (λ h. n h.1)))
    (λ n. apart (λ h. n h.0))

by_standing : (s : Side) (a i : ℕ) (o : Order) (P : Bool → Type 0) → (Stands s a i o → P true) → (¬ Stands s a i o → P false)
    → P (same_side o.side s && stands_in a i o)
by_standing s a i o P here apart =
    by_side o.side s (λ t. P (t && stands_in a i o))
    (λ d. by_place a i o P (λ e f. here (d, e, f)) (λ n. apart (λ h. n (h.1, h.2))))
    (λ n. apart (λ h. n h.0))

pub stands? : (s : Side) (a i : ℕ) (o : Order) → Dec (Stands s a i o)
stands? s a i o = by_standing s a i o (λ _. Dec (Stands s a i o)) yes no

module _ (unit : Order → ℕ) (s : Side) (a i : ℕ) (o : Order) where
  by_amount : (n : ℕ) (P : ℤ → Type 0) → (Stands s a i o → P (pos (unit o * n))) → (¬ Stands s a i o → P (pos 0))
      → P (amount unit s a i o n)
  unfolding amount
  by_amount n P = by_standing s a i o (λ t. P (cond t (pos (unit o * n)) (pos 0)))

  pub amount_here : (n : ℕ) → Stands s a i o → amount unit s a i o n ≡ pos (unit o * n)
  amount_here n h = by_amount n (λ x. x ≡ pos (unit o * n)) (λ _. refl) (λ out. absurd (out h))

  pub amount_apart : (n : ℕ) → ¬ Stands s a i o → amount unit s a i o n ≡ pos 0
  amount_apart n out = by_amount n (λ x. x ≡ pos 0) (λ h. absurd (out h)) (λ _. refl)

  pub amount_nonneg : (n : ℕ) → pos 0 ≤ℤ amount unit s a i o n
  amount_nonneg n = by_amount n (λ x. pos 0 ≤ℤ x) (λ _. omega signed) (λ _. omega signed)

  pub amount_none : amount unit s a i o 0 ≡ pos 0
  amount_none = by_amount 0 (λ x. x ≡ pos 0) (λ _. omega signed) (λ _. refl)

  pub amount_sum : (m n : ℕ) → amount unit s a i o (m + n) ≡ amount unit s a i o m +ℤ amount unit s a i o n
  amount_sum m n =
      by_cases (stands? s a i o) (λ h. rw (amount_here m h, amount_here n h, amount_here (m + n) h) (omega signed))
      (λ out. rw (amount_apart m out, amount_apart n out, amount_apart (m + n) out))

  pub amount_≤ : (m n : ℕ) → m ≤ n → amount unit s a i o m ≤ℤ amount unit s a i o n
  amount_≤ m n l =
      by_cases (stands? s a i o) (λ h. rw (amount_here m h, amount_here n h) (omega (signed, mul-le-mul_left (unit o) l)))
      (λ out. rw (amount_apart m out, amount_apart n out) (omega signed))

-- o' is o but for its numbers: same account, instrument, side and unit
pub record Alike (unit : Order → ℕ) (o o' : Order) : Type 0 where
  pub same_account : o'.account ≡ o.account
  pub same_instrument : o'.instrument ≡ o.instrument
  pub same_side_lem : o'.side ≡ o.side
  pub same_unit : unit o' ≡ unit o

pub amount_alike : {unit : Order → ℕ} {o o' : Order} → Alike unit o o' → (s : Side) (a i n : ℕ)
    → amount unit s a i o' n ≡ amount unit s a i o n
unfolding amount stands_in
amount_alike e s a i n = rw (e.same_unit, e.same_account, e.same_instrument, e.same_side_lem)

-- ---- a fill moves the balance of the account and instrument where the order stands
module _ (unit : Order → ℕ) (a i : ℕ) (o : Order) (n : ℕ) where
  pub fill_here : o.account ≡ a → o.instrument ≡ i → fill_moves unit a i o n ≡ toward (way_of o.side) (pos (unit o * n))
  unfolding fill_moves
  fill_here d e =
      by_place a i o (λ t. cond t (toward (way_of o.side) (pos (unit o * n))) (pos 0) ≡ toward (way_of o.side) (pos (unit o * n)))
      (λ _ _. refl) (λ out. absurd (out (d, e)))

  pub fill_apart : ¬ ((o.account ≡ a) × (o.instrument ≡ i)) → fill_moves unit a i o n ≡ pos 0
  unfolding fill_moves
  fill_apart out =
      by_place a i o (λ t. cond t (toward (way_of o.side) (pos (unit o * n))) (pos 0) ≡ pos 0) (λ d e. absurd (out (d, e))) (λ _. refl)

-- on a side it moves it by what it buys or sells there, less what it does on the other
pub fill_amounts : (unit : Order → ℕ) (a i : ℕ) (o : Order) (n : ℕ) (w : Way)
    → toward w (fill_moves unit a i o n) ≡ amount unit (side_to w) a i o n -ℤ amount unit (side_to (opposite w)) a i o n
unfolding fill_moves amount
fill_amounts unit a i o n w = go (stands_in a i o) o.side w (unit o * n)
  where
    go : (t : Bool) (s : Side) (v : Way) (x : ℕ) → toward v (cond t (toward (way_of s) (pos x)) (pos 0))
        ≡ cond (same_side s (side_to v) && t)
        (pos x) (pos 0) -ℤ cond (same_side s (side_to (opposite v)) && t) (pos x) (pos 0)
    go true Buy long x = omega (signed, difference_parts (pos x) (pos 0))
    go true Buy short x = omega (signed, negation_parts (pos x), difference_parts (pos 0) (pos x))
    go true Sell long x = omega (signed, negation_parts (pos x), difference_parts (pos 0) (pos x))
    go true Sell short x = omega (signed, negation_parts (pos x), negation_parts (neg_ℤ (pos x)), difference_parts (pos x) (pos 0))
    go false Buy long x = refl
    go false Buy short x = refl
    go false Sell long x = refl
    go false Sell short x = refl
