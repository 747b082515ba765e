-- Sums of integers, over the elements of a list and over the numbers below n.
use Rattle.std.specs.Prelude.{◌≡◌, ◌≢◌, ℕ, zero, suc, ◌+◌, ◌*◌, ◌≤◌, ◌<◌, length, ℤ, pos, neg_ℤ, nat_abs, ◌+ℤ◌, ◌-ℤ◌, ◌≤ℤ◌}
use Rattle.std.proofs.Math.Path.{refl}
use Rattle.std.proofs.Common.{sym, ap, ⊎_elim, add-one, length-append}
use mathlib.Core.List.Memᴰ
use mathlib.Core.List.{List, [], ◌∷◌, ◌++◌, Memᴰ}
use Rattle.std.proofs.Math.Decide.{ℕ_discrete}
use native.Mathlib.Omega.{arith}
use Rattle.std.proofs.Math.IntN.{+ℤ_assoc, +ℤ_idl, +ℤ_idr, neg_ℤ-+ℤ}
use Rattle.integers.specs.Parts.{signed, sum_parts, difference_parts}
use Rattle.integers.specs.Magnitude.{magnitude_sum}

-- h x₁ + h x₂ + … for the elements of the list
unfoldable pub sum_over : {A : Type 0} → (A → ℤ) → List A → ℤ
sum_over h [] = pos 0
sum_over h (x ∷ xs) = h x +ℤ sum_over h xs

-- 0, 1, …, n − 1
unfoldable pub below : ℕ → List ℕ
below zero = []
below (suc n) = below n ++ (n ∷ [])

-- f 0 + f 1 + … + f (n − 1)
abbrev pub sum_to : (ℕ → ℤ) → ℕ → ℤ
sum_to f n = sum_over f (below n)

-- ---- over a list. What a law asks of the terms it asks for the elements of the list alone.
module _ {A : Type 0} where
  pub sum_over_none : (h : A → ℤ) → sum_over h [] ≡ pos 0
  unfolding sum_over
  sum_over_none h = refl

  pub sum_over_cons : (h : A → ℤ) (x : A) (xs : List A) → sum_over h (x ∷ xs) ≡ h x +ℤ sum_over h xs
  unfolding sum_over
  sum_over_cons h x xs = refl

  pub sum_over_append : (h : A → ℤ) (xs ys : List A) → sum_over h (xs ++ ys) ≡ sum_over h xs +ℤ sum_over h ys
  unfolding sum_over
  sum_over_append h [] ys = rw +ℤ_idl
  sum_over_append h (x ∷ xs) ys = rw (sum_over_append h xs ys, +ℤ_assoc)

  pub sum_over_mono : (f g : A → ℤ) (xs : List A) → ((a : A) → Memᴰ a xs → f a ≤ℤ g a) → sum_over f xs ≤ℤ sum_over g xs
  unfolding sum_over
  sum_over_mono f g [] h = omega signed
  sum_over_mono f g (x ∷ xs) h =
      omega (
        signed,
        h x (Memᴰ.head refl),
        sum_over_mono f g xs (λ a m. h a (Memᴰ.tail m)),
        sum_parts (f x) (sum_over f xs),
        sum_parts (g x) (sum_over g xs),
      )

  pub sum_over_same : (f g : A → ℤ) (xs : List A) → ((a : A) → Memᴰ a xs → f a ≡ g a) → sum_over f xs ≡ sum_over g xs
  unfolding sum_over
  sum_over_same f g [] h = refl
  sum_over_same f g (x ∷ xs) h = cc (h x (Memᴰ.head refl), sum_over_same f g xs (λ a m. h a (Memᴰ.tail m)))

  pub sum_over_zero : (f : A → ℤ) (xs : List A) → ((a : A) → Memᴰ a xs → f a ≡ pos 0) → sum_over f xs ≡ pos 0
  unfolding sum_over
  sum_over_zero f [] h = refl
  sum_over_zero f (x ∷ xs) h =
      omega (signed, h x (Memᴰ.head refl), sum_over_zero f xs (λ a m. h a (Memᴰ.tail m)), sum_parts (f x) (sum_over f xs))

  pub sum_over_nonneg : (f : A → ℤ) (xs : List A) → ((a : A) → Memᴰ a xs → pos 0 ≤ℤ f a) → pos 0 ≤ℤ sum_over f xs
  sum_over_nonneg f xs h = rw (sum_over_zero (λ a. pos 0) xs (λ a m. refl)) at (sum_over_mono (λ a. pos 0) f xs h)

  pub sum_over_additive : (f g : A → ℤ) (xs : List A) → sum_over (λ a. f a +ℤ g a) xs ≡ sum_over f xs +ℤ sum_over g xs
  unfolding sum_over
  sum_over_additive f g [] = refl
  sum_over_additive f g (x ∷ xs) =
      let s = sum_over f xs in
      let t = sum_over g xs in
      let u = sum_over (λ a. f a +ℤ g a) xs in
      omega (
        signed,
        sum_over_additive f g xs,
        sum_parts (f x) (g x),
        sum_parts (f x +ℤ g x) u,
        sum_parts s t,
        sum_parts (f x) s,
        sum_parts (g x) t,
        sum_parts (f x +ℤ s) (g x +ℤ t),
      )

  pub sum_over_negated : (f : A → ℤ) (xs : List A) → sum_over (λ a. neg_ℤ (f a)) xs ≡ neg_ℤ (sum_over f xs)
  unfolding sum_over
  sum_over_negated f [] = refl
  sum_over_negated f (x ∷ xs) = rw (sum_over_negated f xs, neg_ℤ-+ℤ)

  pub sum_over_magnitude : (f : A → ℤ) (xs : List A) (m : ℕ) → ((a : A) → Memᴰ a xs → nat_abs (f a) ≤ m)
      → nat_abs (sum_over f xs) ≤ length xs * m
  unfolding sum_over
  sum_over_magnitude f [] m h = omega arith
  sum_over_magnitude f (x ∷ xs) m h =
      omega (arith, h x (Memᴰ.head refl), sum_over_magnitude f xs m (λ a i. h a (Memᴰ.tail i)), magnitude_sum (f x) (sum_over f xs))

-- ---- over the numbers below n. For sums, negations and multiples cite the law of `sum_over` at the list `below n`.
pub in_below : (n : ℕ) {i : ℕ} → Memᴰ i (below n) → i < n
unfolding below
in_below zero m = absurd (Memᴰ.not-nil m)
in_below (suc n) m =
    ⊎_elim (λ k. omega (arith, in_below n k)) (λ k. omega (arith, Memᴰ.eq_of_singleton k)) (Memᴰ.append_cases (below n) m)

length_below : (n : ℕ) → length (below n) ≡ n
unfolding below
length_below zero = refl
length_below (suc n) = omega (arith, length-append (below n) (n ∷ []), length_below n)

pub sum_to_none : (f : ℕ → ℤ) → sum_to f 0 ≡ pos 0
unfolding below sum_over
sum_to_none f = refl

sum_to_suc : (f : ℕ → ℤ) (n : ℕ) → sum_to f (suc n) ≡ sum_to f n +ℤ f n
unfolding below sum_over
sum_to_suc f n = rw (sum_over_append f (below n) (n ∷ []), +ℤ_idr)

pub sum_to_more : (f : ℕ → ℤ) (n : ℕ) → sum_to f (n + 1) ≡ sum_to f n +ℤ f n
sum_to_more f n = rw add-one (sum_to_suc f n)

pub sum_to_mono : (f g : ℕ → ℤ) (n : ℕ) → ((i : ℕ) → i < n → f i ≤ℤ g i) → sum_to f n ≤ℤ sum_to g n
sum_to_mono f g n h = sum_over_mono f g (below n) (λ i m. h i (in_below n m))

pub sum_to_same : (f g : ℕ → ℤ) (n : ℕ) → ((i : ℕ) → i < n → f i ≡ g i) → sum_to f n ≡ sum_to g n
sum_to_same f g n h = sum_over_same f g (below n) (λ i m. h i (in_below n m))

pub sum_to_magnitude : (f : ℕ → ℤ) (n m : ℕ) → ((i : ℕ) → i < n → nat_abs (f i) ≤ m) → nat_abs (sum_to f n) ≤ n * m
sum_to_magnitude f n m h = rw (length_below n) at (sum_over_magnitude f (below n) m (λ i k. h i (in_below n k)))

-- g is f but at j
pub sum_to_change : (f g : ℕ → ℤ) (n j : ℕ) → j < n → ((i : ℕ) → i < n → i ≢ j → f i ≡ g i) → sum_to g n ≡ sum_to f n +ℤ (g j -ℤ f j)
sum_to_change f g zero j h same = absurd (omega arith)
sum_to_change f g (suc n) j h same = by_place (ℕ_discrete j n) (λ k. sum_to_change f g n j k (λ i l. same i (omega arith)))
  where
    change : ℤ
    change = g j -ℤ f j

    by_place : Dec (j ≡ n) → (j < n → sum_to g n ≡ sum_to f n +ℤ change) → sum_to g (suc n) ≡ sum_to f (suc n) +ℤ change
    by_place (yes e) rest =
        omega (
          signed,
          sum_to_same f g n (λ i l. same i (omega arith) (omega arith)),
          ap f e,
          ap g e,
          sum_to_suc f n,
          sum_to_suc g n,
          sum_parts (sum_to f n) (f n),
          sum_parts (sum_to g n) (g n),
          difference_parts (g j) (f j),
          sum_parts (sum_to f (suc n)) change,
        )
    by_place (no apart) rest =
        omega (
          signed,
          rest (omega arith),
          same n (omega arith) (λ e. apart (sym e)),
          sum_to_suc f n,
          sum_to_suc g n,
          sum_parts (sum_to f n) (f n),
          sum_parts (sum_to g n) (g n),
          sum_parts (sum_to f n) change,
          sum_parts (sum_to f (suc n)) change,
        )
