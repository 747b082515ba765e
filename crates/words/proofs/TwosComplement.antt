-- Laws of signed words and fields: a signed number that is stored is read back as itself, whatever its sign.
use Rattle.std.specs.Prelude.{◌+◌, ◌*◌, ◌≤◌, ◌≡◌, ◌≢◌, ◌∷◌}
use Rattle.integers.specs.Basics.{ℕ, refl, ◌∙◌, ap, List, [], ℤ, negsuc, length, w64, SFits, arith}
use Rattle.integers.specs.TwosComplement.{signed_of, bits_of, signed_bits, bits_below, fits_in_bits}
use Rattle.words.specs.Bytes.{number}
use Rattle.words.specs.Fields.{i32_at, i64_at}
use Rattle.words.specs.Words.{signed_at, put_signed}
use Rattle.words.proofs.Memory.{word_put_same, word_put_other}

pub signed_put_same : (m : List ℕ) (k : ℕ) (z : ℤ) → k * 8 + 8 ≤ length m → SFits w64 z → signed_at (put_signed m k z) k ≡ z
unfolding signed_at put_signed
signed_put_same m k z fits small =
    let in_bits = fits_in_bits w64 z small in
    ap (signed_of 64) (word_put_same m k (bits_of 64 z) fits (bits_below 64 z in_bits))
    ∙ signed_bits 64 z in_bits

pub signed_put_other : (m : List ℕ) (k : ℕ) (z : ℤ) (j : ℕ) → j ≢ k → signed_at (put_signed m k z) j ≡ signed_at m j
unfolding signed_at put_signed
signed_put_other m k z j other = ap (signed_of 64) (word_put_other m k (bits_of 64 z) j other)

-- a weight of −2, as a roster holds it, is −2
pub weight_of_minus_two : i32_at (254 ∷ 255 ∷ 255 ∷ 255 ∷ []) 0 ≡ negsuc 1
unfolding i32_at number signed_of
weight_of_minus_two = refl

-- a balance of −2, as an event holds it, is −2, and stored in any word it is read as −2
pub balance_of_minus_two : i64_at (254 ∷ 255 ∷ 255 ∷ 255 ∷ 255 ∷ 255 ∷ 255 ∷ 255 ∷ []) 0 ≡ negsuc 1
unfolding i64_at number signed_of
balance_of_minus_two = refl

pub stored_minus_two : (m : List ℕ) (k : ℕ) → k * 8 + 8 ≤ length m → signed_at (put_signed m k (negsuc 1)) k ≡ negsuc 1
stored_minus_two m k fits = signed_put_same m k (negsuc 1) fits (record { sfits = omega arith })
