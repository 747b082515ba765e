-- The number that digits say, digit by digit, and that it fits: below 10 to their number.
use Rattle.std.specs.Prelude.{◌+◌, ◌*◌, ◌-◌, ◌^◌, ◌≤◌, ◌<◌, ◌≡◌, ◌∷◌, ◌++◌}
use Rattle.std.specs.List.{prefix_len}
use Rattle.std.proofs.lemmas.List.Sums.{prefix_len-le-length, prefix_len_passes, prefix_len_stops}
use Rattle.integers.specs.Basics.{ℕ, refl, ◌∙◌, sym, by_cases, true, false, true≢false, List, [], leb, length, get_or}
use Rattle.integers.specs.Basics.{take, arith, leb-true}
use native.Mathlib.Decide.{dec_le}
use mathlib.Core.Bool.{and-eq-true_iff}
use native.Mathlib.Nat.{pow-suc, pow-le-pow_right}
use native.Mathlib.Numerals.{add-one}
use Rattle.std.proofs.lemmas.List.{take_more}
use Rattle.grammar.specs.Bytes.{is_digit, value_from, value_of}

pub digit_range : (b : ℕ) → is_digit b ≡ true → (48 ≤ b) × (b ≤ 57)
unfolding is_digit
digit_range b h =
    let both = (and-eq-true_iff (leb 48 b) (leb b 57)).0 h in
    (leb-true 48 b both.0, leb-true b 57 both.1)

value_push : (n : ℕ) (x : List ℕ) (b : ℕ) → value_from n (x ++ (b ∷ [])) ≡ value_from n x * 10 + (b - 48)
unfolding value_from
value_push n [] b = refl
value_push n (c ∷ x) b = value_push (n * 10 + (c - 48)) x b

pub value_more : (s : List ℕ) (k : ℕ) → k < length s → value_of (take (k + 1) s) ≡ value_of (take k s) * 10 + (get_or s k 0 - 48)
value_more s k h = rw (take_more s k 0 h, value_push)

pub digits_on : (s : List ℕ) (k : ℕ) → k ≤ prefix_len is_digit s → k < length s → is_digit (get_or s k 0) ≡ true
    → (k + 1 ≤ prefix_len is_digit s) × (48 ≤ get_or s k 0) × (get_or s k 0 ≤ 57)
digits_on s k h g e =
    let range = digit_range (get_or s k 0) e in (
      by_cases (dec_le (k + 1) (prefix_len is_digit s)) (λ more. more)
          (λ none.
          let same : prefix_len is_digit s ≡ k = omega (arith, h, none) in
          let off = prefix_len_stops is_digit s 0 (omega (arith, same, g)) in absurd (true≢false (sym e ∙ rw same at off))),
      range.0,
      range.1,
    )

pub digits_off : (s : List ℕ) (k : ℕ) → k ≤ prefix_len is_digit s → is_digit (get_or s k 0) ≡ false → k ≡ prefix_len is_digit s
digits_off s k h e =
    by_cases (dec_le (k + 1) (prefix_len is_digit s))
    (λ more. absurd (true≢false (sym (prefix_len_passes is_digit s k 0 (omega (arith, more))) ∙ e)))
    (λ none. omega (arith, h, none))

pub digits_end : (s : List ℕ) → prefix_len is_digit s ≤ length s
digits_end s = prefix_len-le-length is_digit s

pub power_more : (k : ℕ) → 10 ^ (k + 1) ≡ 10 ^ k * 10
power_more k = rw (add-one, pow-suc) (omega arith)

pub power_small : (k : ℕ) → k ≤ 10 → 10 ^ k ≤ 10 ^ 10
power_small k h = pow-le-pow_right (omega arith) {j = 10} h

pub ruleset digit_by_digit = (value_more, digits_on, digits_off, digits_end, power_more, power_small)
