-- A number written out in bytes is read back as itself, and so are a figure of an event and a weight of a roster, whatever their sign.
use Rattle.std.specs.Prelude.{◌+◌, ◌*◌, ◌/◌, ◌%◌, ◌^◌, ◌<◌, ◌≡◌, ◌∷◌, ◌++◌}
use Rattle.integers.specs.Basics.{ℕ, zero, suc, refl, ◌∙◌, ap, List, ℤ, get_or, arith}
use Rattle.integers.specs.TwosComplement.{InBits, signed_of, bits_of, signed_bits, bits_below}
use native.Mathlib.Nat.{pow-suc}
use native.Mathlib.Numerals.{add-one}
use Rattle.words.specs.Bytes.{number}
use Rattle.words.specs.Fields.{i32_at, i64_at}
use Rattle.book.specs.EventBytes.{bytes_of, figure_bytes}
use Rattle.book.specs.Rosters.{weight_bytes}

-- past the first byte
number_past : (n b : ℕ) (s : List ℕ) (a : ℕ) → number n (b ∷ s) (suc a) ≡ number n s a
unfolding number
number_past zero b s a = refl
number_past (suc n) b s a = ap (λ x. get_or s a 0 + 256 * x) (simp add-one (number_past n b s (suc a)))

pub number_written : (n v : ℕ) (s : List ℕ) → v < 256 ^ n → number n (bytes_of n v ++ s) 0 ≡ v
unfolding number bytes_of
number_written zero v s below = omega arith
number_written (suc n) v s below =
    let rest : v / 256 < 256 ^ n = omega (arith, pow-suc 256 n) in
    rw (number_past n (v % 256) (bytes_of n (v / 256) ++ s) 0, number_written n (v / 256) s rest) (omega arith)

pub figure_written : (z : ℤ) (s : List ℕ) → InBits 64 z → i64_at (figure_bytes z ++ s) 0 ≡ z
unfolding i64_at figure_bytes
figure_written z s fits = ap (signed_of 64) (number_written 8 (bits_of 64 z) s (bits_below 64 z fits)) ∙ signed_bits 64 z fits

pub weight_written : (w : ℤ) (ws : List ℤ) → InBits 32 w → i32_at (weight_bytes (w ∷ ws)) 0 ≡ w
unfolding i32_at weight_bytes
weight_written w ws fits =
    ap (signed_of 32) (number_written 4 (bits_of 32 w) (weight_bytes ws) (bits_below 32 w fits)) ∙ signed_bits 32 w fits
