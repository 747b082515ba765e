-- What is read where digits or plain bytes, m of them at most, and a quote behind them are looked for: code counts m of them at most, and
-- the reader one more, which is too many.
use Prim.Native.Nat.{min}
use Rattle.std.specs.Prelude.{◌+◌, ◌-◌, ◌≤◌, ◌<◌, ◌≡◌, ◌≢◌, ◌&&◌}
use Rattle.std.specs.List.{prefix_len}
use Rattle.std.proofs.lemmas.List.Sums.{prefix_len-le-length, prefix_len_passes}
use Rattle.integers.specs.Basics.{ℕ, suc, refl, ◌∙◌, sym, ap, by_cases, Bool, true, false, cond, leb, List, None, Some}
use Rattle.integers.specs.Basics.{true≢false, length, get_or, take, drop, arith, leb-true, le-leb, lt-leb, ne_eqb}
use native.Mathlib.Decide.{dec_le}
use mathlib.Core.Bool.{and-eq-true_iff}
use lib.ListN.{length-drop}
use lib.Seq.{drop-cons, get_or-drop, take-take}
use Rattle.grammar.specs.Bytes.{bytes, is_digit, is_plain, value_of}
use Rattle.grammar.specs.Reader.{starts, span, literal_at, digits_at, plain_at}
use Rattle.grammar.specs.Place.{Place, place}
use Rattle.grammar.specs.Found.{place_of, found, past_literal}
use Rattle.grammar.proofs.Tests.{by_test}
use Rattle.grammar.proofs.Spans.{span_is, prefix_len-take}

abbrev quote : List ℕ
quote = bytes "\""

-- a byte of a class that has no quote is none
not_quote : (f : ℕ → Bool) → f 34 ≡ false → (s : List ℕ) (p j : ℕ) → j < prefix_len f (drop p s) → literal_at s quote (p + j) ≡ false
unfolding starts
not_quote f off s p j h =
    let all = prefix_len-le-length f (drop p s) in
    let long = length-drop p s in
    let within : p + j < length s = omega arith in
    let here : f (get_or s (p + j) 0) ≡ true = rw get_or-drop at (prefix_len_passes f (drop p s) j 0 h) in
    rw (drop-cons s (p + j) 0, ne_eqb 34 (get_or s (p + j) 0) (λ e. true≢false (sym here ∙ ap f (sym e) ∙ off)))

some_none : {A : Type 0} {x : A} → Some x ≡ None → ⊥
some_none e = cc

still : (a b c : Bool) → (b && c) ≡ false → ((a && b) && c) ≡ false
still true b c e = e
still false b c e = refl

-- how many code counts, and the reader
module _ (f : ℕ → Bool) (m : ℕ) (s : List ℕ) (p : ℕ) where
  abbrev pub counted : ℕ
  counted = prefix_len f (take (min (length s) (p + m) - p) (drop p s))

  abbrev pub spanned : ℕ
  spanned = span f (suc m) (drop p s)

  module _ (h : p ≤ length s) where
    counted_is : counted ≡ min m (prefix_len f (drop p s))
    counted_is =
        let all = prefix_len-le-length f (drop p s) in
        let long = length-drop p s in
        rw prefix_len-take (omega arith)

    -- they are the same where they are not too many
    fit : spanned ≤ m → counted ≡ spanned
    fit few = omega (arith, few, counted_is, span_is f (suc m) (drop p s))

    closed_is : f 34 ≡ false
        → past_literal s quote (p + counted)
        ≡ cond (leb spanned m && literal_at s quote (p + spanned)) (Some (place s (p + spanned + 1))) None
    closed_is off =
        by_cases (dec_le spanned m) (λ few. rw (le-leb spanned m few, fit few))
        (λ many. let more = span_is f (suc m) (drop p s) in
        let last : counted ≡ m = omega (arith, many, more, counted_is) in
        rw (lt-leb spanned m (omega (arith, many)), last, not_quote f off s p m (omega (arith, many, more))))

-- ---- texts, and numbers
plain_off : is_plain 34 ≡ false
unfolding is_plain
plain_off = refl

digit_off : is_digit 34 ≡ false
unfolding is_digit
digit_off = refl

module _ (s : List ℕ) (p : ℕ) (h : p ≤ length s) where
  -- n plain bytes before place e
  pub text_read : (e n : ℕ) → e ≡ min (length s) (p + 100) → n ≡ prefix_len is_plain (take (e - p) (drop p s))
      → past_literal s quote (p + n) ≡ place_of s (plain_at s p)
  unfolding plain_at
  text_read e n end count =
      let k = spanned is_plain 100 s p in
      rw (rw end at count, closed_is is_plain 100 s p h plain_off)
      (by_test (leb k 100 && literal_at s quote (p + k)) (λ e. rw e) (λ e. rw e))

  -- n digits before place e
  module _ (e n : ℕ) (end : e ≡ min (length s) (p + 10)) (count : n ≡ prefix_len is_digit (take (e - p) (drop p s))) where
    abbrev k : ℕ
    k = spanned is_digit 10 s p

    few : n ≡ min 10 (prefix_len is_digit (drop p s))
    few = rw end at count ∙ counted_is is_digit 10 s p h

    quoted : past_literal s quote (p + n) ≡ cond (leb k 10 && literal_at s quote (p + k)) (Some (place s (p + k + 1))) None
    quoted = rw (rw end at count) (closed_is is_digit 10 s p h digit_off)

    pub digits_none : n ≡ 0 → None ≡ found s (digits_at s p)
    unfolding digits_at
    digits_none none =
        let empty : k ≡ 0 = omega (arith, few, none, span_is is_digit 11 (drop p s)) in
        rw empty

    pub digits_unquoted : past_literal s quote (p + n) ≡ None → None ≡ found s (digits_at s p)
    unfolding digits_at
    digits_unquoted none =
        by_test (leb k 10 && literal_at s quote (p + k)) (λ e. absurd (let found = rw e at (sym quoted ∙ none) in some_none found))
        (λ e. rw (still (leb 1 k) (leb k 10) (literal_at s quote (p + k)) e))

    pub digits_quoted : (q : Place) → n ≢ 0 → past_literal s quote (p + n) ≡ Some q
        → Some (value_of (take n (take (e - p) (drop p s))), q) ≡ found s (digits_at s p)
    unfolding digits_at
    digits_quoted q some there =
        by_test (leb k 10 && literal_at s quote (p + k))
        (λ t.
        let both = (and-eq-true_iff (leb k 10) (literal_at s quote (p + k))).0 t in
        let same : n ≡ k = rw end at count ∙ fit is_digit 10 s p h (leb-true k 10 both.0) in
        let within : n ≤ e - p = omega (arith, few, prefix_len-le-length is_digit (drop p s), length-drop p s) in
        let there' : Some (place s (p + k + 1)) ≡ Some q = rw t at (sym quoted ∙ there) in
        let next : place s (p + k + 1) ≡ q = cc in
        rw (le-leb 1 k (omega (arith, some, same)), both.0, both.1, next, take-take n (e - p) (drop p s) within, same))
        (λ t. absurd (let found = rw t at (sym quoted ∙ there) in some_none (sym found)))

pub ruleset number_read = (digits_none, digits_unquoted, digits_quoted)
