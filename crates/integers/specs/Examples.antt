-- A proved example of each use of these laws.
use Rattle.std.specs.Prelude.{◌≡◌, ◌≢◌, true, false, List, ℕ, ◌+◌, ◌≤◌, ◌<◌, T, ℤ, pos, negsuc, neg_ℤ, nat_abs, ◌+ℤ◌, ◌-ℤ◌, ◌*ℤ◌, ◌≤ℤ◌, ◌<ℤ◌}
use Rattle.std.specs.Int.Signed.{le_z, lt_z, non_neg}
use Rattle.std.specs.Int.{w32, w64}
use Rattle.std.proofs.Common.{SFits}
use Rattle.integers.specs.Parts.{signed, differs, not_≤, sum_parts, difference_parts, scaled_parts, magnitude_parts}
use Rattle.integers.specs.Magnitude.{sized, magnitude_sum, magnitude_product_≤}
use Rattle.integers.specs.Ring.{⊖_ring, ⊖_arith, all₂, all₃}
use Rattle.integers.specs.Product.{product_≤, flipped_≤}
use Rattle.integers.specs.Sum.{sum_to, sum_to_more, sum_to_magnitude, sum_over, sum_over_mono, sum_over_additive, below}
use Rattle.integers.specs.TwosComplement.{signed_of, bits_of, InBits, signed_bits, signed_range}

-- ---- linear facts: every hypothesis of order, equality, a test or a fit is read
chain : (x y z : ℤ) → x ≤ℤ y → y <ℤ z → x <ℤ z
chain x y z h k = omega signed

tests : (x y z : ℤ) → le_z x y ≡ true → lt_z y z ≡ true → le_z z x ≡ false
tests x y z h k = omega signed

together : (x y z : ℤ) → le_z x y ≡ false → lt_z z y ≡ false → pos 0 ≤ℤ y → (y <ℤ x) × (z ≢ negsuc 0) × T (non_neg z)
together x y z h k l = omega signed

-- a negation is listed
strict : (x y z : ℤ) → (x ≡ y → ⊥) → x ≤ℤ y → ¬ (z ≤ℤ y) → (x <ℤ y) × (x <ℤ z)
strict x y z n h k = omega (signed, differs n, not_≤ k)

-- a sum, a difference or a multiple is listed with its parts
moved_over : (x y z : ℤ) → (x -ℤ y) ≤ℤ z → x ≤ℤ (z +ℤ y)
moved_over x y z h = omega (signed, difference_parts x y, sum_parts z y)

scaled : (x y : ℤ) → x ≤ℤ y → (pos 10000 *ℤ x) ≤ℤ (pos 10000 *ℤ y +ℤ pos 1)
scaled x y h = omega (signed, scaled_parts 10000 x, scaled_parts 10000 y, sum_parts (pos 10000 *ℤ y) (pos 1))

-- ---- magnitudes and fits
magnitude : (x : ℤ) → x ≤ℤ pos 10 → negsuc 9 ≤ℤ x → nat_abs x ≤ 10
magnitude x h k = omega (signed, magnitude_parts x)

both_ends : (x : ℤ) → SFits w64 x → (negsuc 9223372036854775807 ≤ℤ x) × (x ≤ℤ pos 9223372036854775807)
both_ends x f = omega signed

sum_fits : (x y : ℤ) → nat_abs x ≤ 2000000000 → SFits w32 y → SFits w64 (x +ℤ y)
sum_fits x y h f = omega (sized, magnitude_sum x y)

product_fits : (k x : ℤ) → nat_abs k ≤ 1000000 → nat_abs x ≤ 200000000000 → SFits w64 (k *ℤ x)
product_fits k x h l = omega (sized, magnitude_product_≤ k x 1000000 200000000000 h l)

products_fit : (k x : ℕ → ℤ) → ((i : ℕ) → nat_abs (k i) ≤ 1000000) → ((i : ℕ) → nat_abs (x i) ≤ 200000000000)
    → SFits w64 (sum_to (λ i. k i *ℤ x i) 32)
products_fit k x h l =
    omega (
      sized,
      sum_to_magnitude (λ i. k i *ℤ x i) 32 200000000000000000
          (λ i b. magnitude_product_≤ (k i) (x i) 1000000 200000000000 (h i) (l i)),
    )

-- ---- ring identities, of variables and of numbers
square : (x y z : ℤ) → (x +ℤ y) *ℤ (x -ℤ y) +ℤ z ≡ x *ℤ x -ℤ y *ℤ y +ℤ z
square = all₃ _ (λ a b c d e f. simp ⊖_ring (omega ⊖_arith))

opened : (x y : ℤ) → (x +ℤ pos 10000) *ℤ (negsuc 0 -ℤ y) ≡ neg_ℤ x -ℤ x *ℤ y -ℤ pos 10000 -ℤ pos 10000 *ℤ y
opened = all₂ _ (λ a b c d. simp ⊖_ring (omega ⊖_arith))

-- ---- a product by the sign of its factor
weighted : (k s b v : ℤ) → pos 0 ≤ℤ k → s ≤ℤ b → (k *ℤ s +ℤ v) ≤ℤ (k *ℤ b +ℤ v)
weighted k s b v h l = omega (signed, product_≤ k s b h l, sum_parts (k *ℤ s) v, sum_parts (k *ℤ b) v)

turned : (k s b : ℤ) → k ≤ℤ pos 0 → s ≤ℤ b → (k *ℤ b) ≤ℤ (k *ℤ s)
turned k s b h l = flipped_≤ k s b h l

-- ---- a sum: a turn of a loop, terms that grow, a list's sum of sums
turn : (f : ℕ → ℤ) (n : ℕ) (total : ℤ) → total ≡ sum_to f n → total +ℤ f n ≡ sum_to f (n + 1)
turn f n total e = cc (sum_to_more f n)

grown : {A : Type 0} (f g : A → ℤ) (xs : List A) → ((a : A) → pos 0 ≤ℤ g a) → sum_over f xs ≤ℤ sum_over (λ a. f a +ℤ g a) xs
grown f g xs h = sum_over_mono f (λ a. f a +ℤ g a) xs (λ a m. let p = h a in omega (signed, sum_parts (f a) (g a)))

split_sum : (f g : ℕ → ℤ) (n : ℕ) → sum_to (λ i. f i +ℤ g i) n ≡ sum_to f n +ℤ sum_to g n
split_sum f g n = sum_over_additive f g (below n)

-- ---- two's complement
stored : (z : ℤ) → SFits w64 z → signed_of 64 (bits_of 64 z) ≡ z
stored z f = signed_bits 64 z (omega signed)

loaded : (n : ℕ) → n < 4294967296 → SFits w32 (signed_of 32 n)
loaded n h = let r : InBits 32 (signed_of 32 n) = signed_range 32 n (omega signed) h in omega signed
