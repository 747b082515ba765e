-- A row cut into chunks of n bytes: chunk p is the n bytes from byte p n on, so that the number in it is number p of the row.
use Rattle.std.specs.Prelude.{◌+◌, ◌*◌, ◌<◌, ◌≡◌}
use Rattle.integers.specs.Basics.{ℕ, zero, suc, refl, ◌∙◌, sym, ap, List, [], get_or, take, drop, to_z, arith}
use Rattle.integers.specs.TwosComplement.{signed_to_z}
use native.Mathlib.Nat.{suc-mul}
use Rattle.std.specs.Int.{w32, w64, from_le_bytes}
use Rattle.std.specs.Simd.{first_chunks}
use Rattle.std.proofs.lemmas.List.{drop-drop}
use Rattle.words.specs.Bytes.{number}
use Rattle.words.specs.Fields.{u32_at}
use Rattle.words.specs.Words.{word_at, signed_at, part_of}
use Rattle.words.proofs.Parts.{number_part}
use Rattle.words.proofs.Memory.{word_below}
use Rattle.limits.specs.InBytes.{line_at, group_line_at}
use Rattle.memory_layout.proofs.LinesInRows.{line_in_row}

chunk_at : (n k p : ℕ) (s : List ℕ) → p < k → get_or (first_chunks n k s) p [] ≡ take n (drop (p * n) s)
chunk_at n zero p s h = absurd (omega arith)
chunk_at n (suc k) zero s h = let e : 0 * n ≡ 0 = omega arith in rw e refl
chunk_at n (suc k) (suc p) s h =
    let e : n + p * n ≡ suc p * n = omega (arith, suc-mul p n) in
    chunk_at n k p (drop n s) (omega arith) ∙ ap (take n) (drop-drop (p * n) n s ∙ ap (λ j. drop j s) e)

-- the number in a chunk
number_in : (n k p : ℕ) (s : List ℕ) → p < k → number n (get_or (first_chunks n k s) p []) 0 ≡ number n s (p * n)
number_in n k p s h =
    let e : p * n + 0 ≡ p * n = omega arith in
    ap (λ c. number n c 0) (chunk_at n k p s h) ∙ number_part n s (p * n) n 0 (omega arith) ∙ ap (number n s) e

read_32 : (c : List ℕ) → from_le_bytes w32 c ≡ number 4 c 0
unfolding number
read_32 c = omega arith

read_64 : (c : List ℕ) → from_le_bytes w64 c ≡ number 8 c 0
unfolding number
read_64 c = omega arith

module _ (k : ℕ) (s : List ℕ) (chunks : List (List ℕ)) (p : ℕ) (h : p < k) where
  pub figure_in_chunk : chunks ≡ first_chunks 4 k s → from_le_bytes w32 (get_or chunks p []) ≡ u32_at s (p * 4)
  unfolding u32_at
  figure_in_chunk cut = read_32 (get_or chunks p []) ∙ rw cut (number_in 4 k p s h)

  pub word_in_chunk : chunks ≡ first_chunks 8 k s → from_le_bytes w64 (get_or chunks p []) ≡ word_at s p
  unfolding word_at
  word_in_chunk cut = read_64 (get_or chunks p []) ∙ rw cut (number_in 8 k p s h)

  pub weight_in_chunk : chunks ≡ first_chunks 8 k s → ((i : ℕ) → get_or s i 0 < 256)
      → to_z w64 (from_le_bytes w64 (get_or chunks p [])) ≡ signed_at s p
  unfolding signed_at
  weight_in_chunk cut bytes = rw (word_in_chunk cut) (sym (signed_to_z w64 (word_at s p) (word_below s p bytes)))

  pub line_in_chunk : chunks ≡ first_chunks 16 k s → line_at (get_or chunks p []) 0 ≡ line_at s (p * 2)
  unfolding part_of
  line_in_chunk cut =
      let e : p * 2 * 8 ≡ p * 16 = omega arith in
      let same : p * 2 + 0 ≡ p * 2 = omega arith in
      rw (cut, chunk_at 16 k p s h) (rw (e, same) at (line_in_row s (p * 2) 2 0 (omega arith)))

  own_word : chunks ≡ first_chunks 8 k s → word_at (get_or chunks p []) 0 ≡ word_at s p
  unfolding word_at
  own_word cut = rw cut (number_in 8 k p s h)

  pub group_line_in_chunk : chunks ≡ first_chunks 8 k s → group_line_at (get_or chunks p []) 0 ≡ group_line_at s p
  unfolding group_line_at
  group_line_in_chunk cut = rw (own_word cut) refl
