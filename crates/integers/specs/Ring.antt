-- Ring laws of ℤ beside those of lib.IntN, and one line that proves any other ring identity in up to three variables:
--     law = all₃ _ (λ a b c d e f. simp ⊖-ring (omega ⊖-arith))
use Rattle.std.specs.Prelude.{◌≡◌, ℕ, suc, ◌+◌, ◌*◌, ℤ, pos, negsuc, neg_ℤ, ◌+ℤ◌, ◌-ℤ◌, ◌*ℤ◌}
use Rattle.std.proofs.Common.{ap, subst, arith}
use Rattle.integers.specs.Parts.{up, down, signed, sum_parts, difference_parts, negation_parts, product_parts}

-- ---- an integer as a difference that does not compute
infix 50 ◌⊖◌
pub ◌⊖◌ : ℕ → ℕ → ℤ
m ⊖ n = pos m -ℤ pos n

⊖_parts : (a b : ℕ) → up (a ⊖ b) + b ≡ a + down (a ⊖ b)
unfolding ◌⊖◌
⊖_parts a b = omega (arith, difference_parts (pos a) (pos b))

pub ⊖_≡ : (a b c d : ℕ) → a + d ≡ c + b → a ⊖ b ≡ c ⊖ d
⊖_≡ a b c d e = omega (signed, ⊖_parts a b, ⊖_parts c d)

pub ⊖_pos : (n : ℕ) → pos n ≡ n ⊖ 0
⊖_pos n = omega (signed, ⊖_parts n 0)

pub ⊖_negsuc : (n : ℕ) → negsuc n ≡ 0 ⊖ suc n
⊖_negsuc n = omega (signed, ⊖_parts 0 (suc n))

pub ⊖_negation : (a b : ℕ) → neg_ℤ (a ⊖ b) ≡ b ⊖ a
⊖_negation a b = omega (signed, negation_parts (a ⊖ b), ⊖_parts a b, ⊖_parts b a)

pub ⊖_sum : (a b c d : ℕ) → (a ⊖ b) +ℤ (c ⊖ d) ≡ (a + c) ⊖ (b + d)
⊖_sum a b c d = omega (signed, sum_parts (a ⊖ b) (c ⊖ d), ⊖_parts a b, ⊖_parts c d, ⊖_parts (a + c) (b + d))

pub ⊖_product : (a b c d : ℕ) → (a ⊖ b) *ℤ (c ⊖ d) ≡ (a * c + b * d) ⊖ (a * d + b * c)
⊖_product a b c d =
    let x = a ⊖ b in
    let y = c ⊖ d in
    let e = ⊖_parts a b in
    let f = ⊖_parts c d in
    omega (
      signed,
      product_parts x y,
      ⊖_parts (a * c + b * d) (a * d + b * c),
      ap (λ t. t * up y) e,
      ap (λ t. t * down y) e,
      ap (λ t. a * t) f,
      ap (λ t. b * t) f,
    )

pub ruleset ⊖_ring = (⊖_pos, ⊖_negsuc, ⊖_negation, ⊖_sum, ⊖_product)

pub ruleset ⊖_arith = (arith, ⊖_≡)

split : (x : ℤ) → up x ⊖ down x ≡ x
split x = omega (signed, ⊖_parts (up x) (down x))

pub all₁ : (P : ℤ → Type 0) → ((a b : ℕ) → P (a ⊖ b)) → (x : ℤ) → P x
all₁ P f x = subst P (split x) (f (up x) (down x))

pub all₂ : (P : ℤ → ℤ → Type 0) → ((a b c d : ℕ) → P (a ⊖ b) (c ⊖ d)) → (x y : ℤ) → P x y
all₂ P f x y = all₁ (λ u. P u y) (λ a b. all₁ (P (a ⊖ b)) (f a b) y) x

pub all₃ : (P : ℤ → ℤ → ℤ → Type 0) → ((a b c d e f : ℕ) → P (a ⊖ b) (c ⊖ d) (e ⊖ f)) → (x y z : ℤ) → P x y z
all₃ P f x y z = all₁ (λ u. P u y z) (λ a b. all₂ (P (a ⊖ b)) (f a b) y z) x

-- ---- the laws
pub *ℤ_+ℤ : (x y z : ℤ) → x *ℤ (y +ℤ z) ≡ x *ℤ y +ℤ x *ℤ z
*ℤ_+ℤ = all₃ _ (λ a b c d e f. simp ⊖_ring (omega ⊖_arith))

pub neg_ℤ_*ℤ : (x y : ℤ) → neg_ℤ x *ℤ y ≡ neg_ℤ (x *ℤ y)
neg_ℤ_*ℤ = all₂ _ (λ a b c d. simp ⊖_ring (omega ⊖_arith))

pub *ℤ_neg_ℤ : (x y : ℤ) → x *ℤ neg_ℤ y ≡ neg_ℤ (x *ℤ y)
*ℤ_neg_ℤ = all₂ _ (λ a b c d. simp ⊖_ring (omega ⊖_arith))
