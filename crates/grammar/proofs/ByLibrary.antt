-- What the library's words say of a file's bytes: that they start with a literal, how many of a class they start with, and that bytes are
-- all of a class.
use Rattle.std.specs.Prelude.{◌+◌, ◌-◌, ◌≤◌, ◌<◌, ◌≡◌, ◌&&◌, ◌∷◌}
use Rattle.std.specs.List.{starts_with, prefix_len}
use Rattle.std.proofs.lemmas.List.{take_rest}
use Rattle.std.proofs.lemmas.List.Sums.{prefix_len-le-length}
use Rattle.integers.specs.Basics.{ℕ, zero, suc, refl, ap, Bool, true, List, [], eqb, length, get_or, take, drop, arith}
use lib.ListN.{length-drop}
use Rattle.grammar.specs.Bytes.{is_blank, is_digit, all, Each}
use Rattle.grammar.specs.Reader.{starts, span, literal_at, past_blanks}
use Rattle.grammar.proofs.Spans.{span_is, span_all, all_cons}
use Rattle.grammar.proofs.Values.{digit_range}

starts_with_is : (l s : List ℕ) → starts_with eqb s l ≡ starts l s
unfolding starts
starts_with_is [] s = refl
starts_with_is (b ∷ l) [] = refl
starts_with_is (b ∷ l) (c ∷ s) = ap (λ t. eqb b c && t) (starts_with_is l s)

pub literal_from_starts_with : (s l : List ℕ) (p : ℕ) → starts_with eqb (take (length s - p) (drop p s)) l ≡ literal_at s l p
literal_from_starts_with s l p = rw (take_rest s p) (starts_with_is l (drop p s))

module _ (f : ℕ → Bool) where
  span_large : (s : List ℕ) → span f (length s) s ≡ prefix_len f s
  span_large s = omega (arith, span_is f (length s) s, prefix_len-le-length f s)

  pub prefix_len_all : (s : List ℕ) → all f (take (prefix_len f s) s) ≡ true
  prefix_len_all s = rw (← span_large s) (span_all f (length s) s)

  pub all_at : (s : List ℕ) (k : ℕ) → all f s ≡ true → k < length s → f (get_or s k 0) ≡ true
  all_at [] k each h = absurd (omega arith)
  all_at (b ∷ s) zero each h = (all_cons f b s each).0
  all_at (b ∷ s) (suc k) each h = all_at s k (all_cons f b s each).1 (omega arith)

pub past_from_prefix : (s : List ℕ) (p : ℕ) → p + prefix_len is_blank (take (length s - p) (drop p s)) ≡ past_blanks s p
unfolding past_blanks
past_from_prefix s p =
    let all = prefix_len-le-length is_blank (drop p s) in
    let long = length-drop p s in
    rw (take_rest s p, span_is is_blank (length s) (drop p s)) (omega arith)

pub digit_at : (s : List ℕ) (k : ℕ) → k < length s → Each is_digit s → (48 ≤ get_or s k 0) × (get_or s k 0 ≤ 57)
digit_at s k h each = digit_range (get_or s k 0) (all_at is_digit s k each h)
