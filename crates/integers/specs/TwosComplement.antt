-- What `bits` bits, read as a number, stand for in two's complement; the way back; and that the machine's own reading is this one.
use Rattle.std.specs.Prelude.{◌≡◌, refl, Bool, true, false, cond, ℕ, zero, suc, ◌*◌, ◌-◌, ◌^◌, ◌≤◌, ◌<◌, ltb, ℤ, pos, negsuc, neg_ℤ, nat_abs, ◌-ℤ◌, ◌≤ℤ◌, ◌<ℤ◌}
use Rattle.std.proofs.Common.{ap, ◌∙◌, sub-one, arith, ltb-true, ltb-false}
use Rattle.std.proofs.Math.Pow.{pow-sub-lt}
use Rattle.std.specs.Int.{Width}
use mir.Val.{Fits, SFits, bits, hbits, to_z, of_z}
use mir.ValLaws.{bits-suc, to_z-Fits, of_z-to_z}
use Rattle.integers.specs.Parts.{signed, difference_parts, negation_parts}

-- n, or n − 2 ^ bits from 2 ^ (bits − 1) on
unfoldable pub signed_of : ℕ → ℕ → ℤ
signed_of bits n = cond (ltb n (2 ^ (bits - 1))) (pos n) (pos n -ℤ pos (2 ^ bits))

-- z, or 2 ^ bits + z below 0
unfoldable pub bits_of : ℕ → ℤ → ℕ
bits_of bits (pos n) = n
bits_of bits (negsuc n) = 2 ^ bits - suc n

-- the numbers of `bits` bits, of which one is the sign's
pub record InBits (bits : ℕ) (z : ℤ) : Type 0 where
  pub some_bit : 0 < bits
  pub low : neg_ℤ (pos (2 ^ (bits - 1))) ≤ℤ z
  pub high : z <ℤ pos (2 ^ (bits - 1))

twice_half : (b : ℕ) → 0 < b → 2 ^ b ≡ 2 * 2 ^ (b - 1)
twice_half zero h = absurd (omega arith)
twice_half (suc k) h = simp sub-one (omega arith)

-- ---- by the half in which n lies, and by the sign of z
by_half : (b n : ℕ) (P : ℤ → Type 0) → (n < 2 ^ (b - 1) → P (pos n)) → (2 ^ (b - 1) ≤ n → P (pos n -ℤ pos (2 ^ b))) → P (signed_of b n)
unfolding signed_of
by_half b n P small large = go (ltb n (2 ^ (b - 1))) (λ e. small (ltb-true n (2 ^ (b - 1)) e)) (λ e. large (ltb-false n (2 ^ (b - 1)) e))
  where
    go : (t : Bool) → (t ≡ true → P (pos n)) → (t ≡ false → P (pos n -ℤ pos (2 ^ b))) → P (cond t (pos n) (pos n -ℤ pos (2 ^ b)))
    go true f g = f refl
    go false f g = g refl

pub signed_small : (b n : ℕ) → n < 2 ^ (b - 1) → signed_of b n ≡ pos n
signed_small b n h = by_half b n (λ z. z ≡ pos n) (λ k. refl) (λ k. absurd (omega arith))

pub signed_large : (b n : ℕ) → 2 ^ (b - 1) ≤ n → signed_of b n ≡ pos n -ℤ pos (2 ^ b)
signed_large b n h = by_half b n (λ z. z ≡ pos n -ℤ pos (2 ^ b)) (λ k. absurd (omega arith)) (λ k. refl)

pub bits_nonneg : (b : ℕ) (z : ℤ) → pos 0 ≤ℤ z → bits_of b z ≡ nat_abs z
unfolding bits_of
bits_nonneg b (pos n) h = refl
bits_nonneg b (negsuc n) h = absurd (omega signed)

pub bits_negative : (b : ℕ) (z : ℤ) → z <ℤ pos 0 → bits_of b z ≡ 2 ^ b - nat_abs z
unfolding bits_of
bits_negative b (pos n) h = absurd (omega signed)
bits_negative b (negsuc n) h = refl

pub signed_range : (b n : ℕ) → 0 < b → n < 2 ^ b → InBits b (signed_of b n)
signed_range b n some h =
    let half : ℕ = 2 ^ (b - 1) in
    by_half b n (InBits b) (λ k. omega (signed, negation_parts (pos half)))
    (λ k. omega (signed, twice_half b some, negation_parts (pos half), difference_parts (pos n) (pos (2 ^ b))))

-- ---- the two are inverse to each other, between the numbers below 2 ^ bits and those of `bits` bits
pub signed_bits : (b : ℕ) (z : ℤ) → InBits b z → signed_of b (bits_of b z) ≡ z
unfolding bits_of
signed_bits b (pos n) r = signed_small b n (omega signed)
signed_bits b (negsuc n) r =
    let m : ℕ = 2 ^ b - suc n in
    let low : suc n ≤ 2 ^ (b - 1) = omega (signed, negation_parts (pos (2 ^ (b - 1)))) in
    let twice = twice_half b r.some_bit in
    signed_large b m (omega arith) ∙ omega (signed, difference_parts (pos m) (pos (2 ^ b)))

pub bits_signed : (b n : ℕ) → n < 2 ^ b → bits_of b (signed_of b n) ≡ n
unfolding bits_of
bits_signed b n h = by_half b n (λ z. bits_of b z ≡ n) (λ k. refl)
    (λ k. let e : pos n -ℤ pos (2 ^ b) ≡ negsuc (2 ^ b - suc n) = omega (signed, difference_parts (pos n) (pos (2 ^ b))) in
    rw e (omega arith))

pub bits_below : (b : ℕ) (z : ℤ) → InBits b z → bits_of b z < 2 ^ b
unfolding bits_of
bits_below b (pos n) r = omega (signed, twice_half b r.some_bit)
bits_below b (negsuc n) r = pow-sub-lt b (omega arith)

-- ---- the machine's reading is this one, at each of its widths
pub fits_in_bits : (w : Width) (z : ℤ) → SFits w z → InBits (bits w) z
fits_in_bits w z f =
    let half : ℕ = 2 ^ (bits w - 1) in
    let e : bits w - 1 ≡ hbits w = omega (arith, bits-suc w) in
    omega (signed, bits-suc w, ap (λ (k : ℕ). 2 ^ k) e, negation_parts (pos half))

pub bits_of_z : (w : Width) (z : ℤ) → bits_of (bits w) z ≡ of_z w z
unfolding bits_of
bits_of_z w (pos n) = refl
bits_of_z w (negsuc n) = refl

pub signed_to_z : (w : Width) (n : ℕ) → n < 2 ^ bits w → signed_of (bits w) n ≡ to_z w n
signed_to_z w n h =
    let f : Fits w n = record { fits = h } in
    let z : ℤ = to_z w n in
    cc (bits_of_z w z, of_z-to_z w n f, signed_bits (bits w) z (fits_in_bits w z (to_z-Fits w n f)))
