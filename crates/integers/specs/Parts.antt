-- An integer as a difference of two natural numbers, up z − down z, and the rules by which `omega signed` reads and proves linear facts
-- over ℤ.
use Rattle.std.specs.Prelude.{◌≡◌, refl, ◌≢◌, Bool, true, false, cond, ℕ, zero, suc, ◌+◌, ◌*◌, ◌-◌, ◌^◌, ◌≤◌, ◌<◌, min, max, T, ltb, ℤ, pos, negsuc, neg_ℤ, nat_abs, ◌+ℤ◌, ◌-ℤ◌, ◌*ℤ◌, ◌≤ℤ◌, ◌<ℤ◌}
use Rattle.std.proofs.Common.{sym, ap, subst, arith, leb→le, le→leb, ltb→lt, lt→ltb, ltb-true, ltb-false}
use Rattle.std.proofs.Math.IntN.{sub_ℕ}
use Rattle.std.specs.Int.Signed.{le_z, lt_z, non_neg}
use Rattle.std.specs.Int.{Width}
use mir.Val.{SFits, hbits}

-- the positive part and the negative part
abbrev pub up : ℤ → ℕ
up (pos n) = n
up (negsuc n) = 0

abbrev pub down : ℤ → ℕ
down (pos n) = 0
down (negsuc n) = suc n

-- ---- the order and equality: x is at most y where up x + down y ≤ up y + down x
pub ≤_parts : (x y : ℤ) → x ≤ℤ y → up x + down y ≤ up y + down x
≤_parts (pos a) (pos b) h = omega (arith, leb→le a b h.le)
≤_parts (pos a) (negsuc b) h = absurd h.le
≤_parts (negsuc a) (pos b) h = omega arith
≤_parts (negsuc a) (negsuc b) h = omega (arith, leb→le b a h.le)

pub parts_≤ : (x y : ℤ) → up x + down y ≤ up y + down x → x ≤ℤ y
parts_≤ (pos a) (pos b) h = record { le = le→leb a b (omega arith) }
parts_≤ (pos a) (negsuc b) h = absurd (omega arith)
parts_≤ (negsuc a) (pos b) h = record { le = tt }
parts_≤ (negsuc a) (negsuc b) h = record { le = le→leb b a (omega arith) }

pub <_parts : (x y : ℤ) → x <ℤ y → up x + down y < up y + down x
<_parts (pos a) (pos b) h = omega (arith, ltb→lt a b h.lt)
<_parts (pos a) (negsuc b) h = absurd h.lt
<_parts (negsuc a) (pos b) h = omega arith
<_parts (negsuc a) (negsuc b) h = omega (arith, ltb→lt b a h.lt)

pub parts_< : (x y : ℤ) → up x + down y < up y + down x → x <ℤ y
parts_< (pos a) (pos b) h = record { lt = lt→ltb a b (omega arith) }
parts_< (pos a) (negsuc b) h = absurd (omega arith)
parts_< (negsuc a) (pos b) h = record { lt = tt }
parts_< (negsuc a) (negsuc b) h = record { lt = lt→ltb b a (omega arith) }

pub ≡_parts : (x y : ℤ) → x ≡ y → up x + down y ≡ up y + down x
≡_parts x y e = rw e

pub parts_≡ : (x y : ℤ) → up x + down y ≡ up y + down x → x ≡ y
parts_≡ (pos a) (pos b) h = ap pos (omega arith)
parts_≡ (pos a) (negsuc b) h = absurd (omega arith)
parts_≡ (negsuc a) (pos b) h = absurd (omega arith)
parts_≡ (negsuc a) (negsuc b) h = ap negsuc (omega arith)

-- No rule reads a negation: list `differs h`, `not_≤ h` or `not_< h`.
pub differs : {x y : ℤ} → (x ≡ y → ⊥) → up x + down y ≢ up y + down x
differs {x} {y} n e = n (parts_≡ x y e)

pub not_≤ : {x y : ℤ} → ¬ (x ≤ℤ y) → y <ℤ x
not_≤ {x} {y} n =
    let m : ¬ (up x + down y ≤ up y + down x) = λ h. n (parts_≤ x y h) in
    parts_< y x (omega arith)

pub not_< : {x y : ℤ} → ¬ (x <ℤ y) → y ≤ℤ x
not_< {x} {y} n =
    let m : ¬ (up x + down y < up y + down x) = λ h. n (parts_< x y h) in
    parts_≤ y x (omega arith)

-- ---- the tests
is_true : (t : Bool) → T t → t ≡ true
is_true true h = refl
is_true false h = absurd h

is_false : (t : Bool) → (T t → ⊥) → t ≡ false
is_false true h = absurd (h tt)
is_false false h = refl

pub le_z_true_parts : (x y : ℤ) → le_z x y ≡ true → up x + down y ≤ up y + down x
le_z_true_parts x y e = ≤_parts x y (record { le = subst T (sym e) tt })

pub parts_le_z_true : (x y : ℤ) → up x + down y ≤ up y + down x → le_z x y ≡ true
parts_le_z_true x y h = is_true (le_z x y) (parts_≤ x y h).le

pub le_z_false_parts : (x y : ℤ) → le_z x y ≡ false → up y + down x < up x + down y
le_z_false_parts x y e = <_parts y x (not_≤ (λ h. subst T e h.le))

pub parts_le_z_false : (x y : ℤ) → up y + down x < up x + down y → le_z x y ≡ false
parts_le_z_false x y h = is_false (le_z x y) (λ t. omega (arith, ≤_parts x y (record { le = t })))

pub lt_z_true_parts : (x y : ℤ) → lt_z x y ≡ true → up x + down y < up y + down x
lt_z_true_parts x y e = <_parts x y (record { lt = subst T (sym e) tt })

pub parts_lt_z_true : (x y : ℤ) → up x + down y < up y + down x → lt_z x y ≡ true
parts_lt_z_true x y h = is_true (lt_z x y) (parts_< x y h).lt

pub lt_z_false_parts : (x y : ℤ) → lt_z x y ≡ false → up y + down x ≤ up x + down y
lt_z_false_parts x y e = ≤_parts y x (not_< (λ h. subst T e h.lt))

pub parts_lt_z_false : (x y : ℤ) → up y + down x ≤ up x + down y → lt_z x y ≡ false
parts_lt_z_false x y h = is_false (lt_z x y) (λ t. omega (arith, <_parts x y (record { lt = t })))

pub parts_non_neg : (z : ℤ) → down z ≤ up z → T (non_neg z)
parts_non_neg (pos n) h = tt
parts_non_neg (negsuc n) h = absurd (omega arith)

-- ---- z fits the width: −2 ^ hbits w ≤ z < 2 ^ hbits w, in one statement since `omega` applies one rule to a hypothesis
pub fits_parts : (w : Width) (z : ℤ) → SFits w z → max (suc (up z + up z)) (down z + down z) ≤ 2 ^ hbits w + (up z + down z)
fits_parts w (pos n) f = omega (arith, f.sfits)
fits_parts w (negsuc n) f = omega (arith, f.sfits)

pub parts_fits : (w : Width) (z : ℤ) → max (suc (up z + up z)) (down z + down z) ≤ 2 ^ hbits w + (up z + down z) → SFits w z
parts_fits w (pos n) h = record { sfits = omega arith }
parts_fits w (negsuc n) h = record { sfits = omega arith }

pub ruleset signed = (
  arith,
  ≤_parts,
  parts_≤,
  <_parts,
  parts_<,
  ≡_parts,
  parts_≡,
  le_z_true_parts,
  parts_le_z_true,
  le_z_false_parts,
  parts_le_z_false,
  lt_z_true_parts,
  parts_lt_z_true,
  lt_z_false_parts,
  parts_lt_z_false,
  parts_non_neg,
  fits_parts,
  parts_fits,
)

-- ---- facts to list, one for each compound term: without them its parts are two unknowns
pub canonical : (x : ℤ) → min (up x) (down x) ≡ 0
canonical (pos n) = omega arith
canonical (negsuc n) = omega arith

pub magnitude_parts : (x : ℤ) → (nat_abs x ≡ up x + down x) × (min (up x) (down x) ≡ 0)
magnitude_parts (pos n) = (omega arith, canonical (pos n))
magnitude_parts (negsuc n) = (omega arith, canonical (negsuc n))

pub negation_parts : (x : ℤ) → (up (neg_ℤ x) ≡ down x) × (down (neg_ℤ x) ≡ up x)
negation_parts (pos zero) = (refl, refl)
negation_parts (pos (suc n)) = (refl, refl)
negation_parts (negsuc n) = (refl, refl)

sub_ℕ_parts : (a b : ℕ) → up (sub_ℕ a b) + b ≡ a + down (sub_ℕ a b)
sub_ℕ_parts a b = by (ltb a b) (ltb-true a b) (ltb-false a b)
  where
    by : (t : Bool) → (t ≡ true → a < b) → (t ≡ false → b ≤ a)
        → up (cond t (negsuc (b - suc a)) (pos (a - b))) + b ≡ a + down (cond t (negsuc (b - suc a)) (pos (a - b)))
    by true h k = omega (arith, h refl)
    by false h k = omega (arith, k refl)

pub sum_parts : (x y : ℤ) → up (x +ℤ y) + (down x + down y) ≡ up x + up y + down (x +ℤ y)
sum_parts (pos a) (pos b) = omega arith
sum_parts (pos a) (negsuc b) = omega (arith, sub_ℕ_parts a (suc b))
sum_parts (negsuc a) (pos b) = omega (arith, sub_ℕ_parts b (suc a))
sum_parts (negsuc a) (negsuc b) = omega arith

pub difference_parts : (x y : ℤ) → up (x -ℤ y) + (down x + up y) ≡ up x + down y + down (x -ℤ y)
difference_parts x y = omega (arith, sum_parts x (neg_ℤ y), negation_parts y)

pub scaled_parts : (n : ℕ) (x : ℤ) → (up (pos n *ℤ x) ≡ n * up x) × (down (pos n *ℤ x) ≡ n * down x)
scaled_parts n (pos b) = omega arith
scaled_parts n (negsuc b) = omega (arith, negation_parts (pos (n * suc b)))

pub product_parts : (x y : ℤ) → up (x *ℤ y) + (up x * down y + down x * up y) ≡ up x * up y + down x * down y + down (x *ℤ y)
product_parts (pos a) (pos b) = omega arith
product_parts (pos a) (negsuc b) = omega (arith, negation_parts (pos (a * suc b)))
product_parts (negsuc a) (pos b) = omega (arith, negation_parts (pos (suc a * b)))
product_parts (negsuc a) (negsuc b) = omega arith
