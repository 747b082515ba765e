-- What `all` over the numbers from 1 to n answers: `(1..=n).all(..)` is `every n`, and a yes is one of each number.
use Rattle.std.specs.Prelude.{◌+◌, ◌-◌, ◌≤◌, ◌<◌, ◌≡◌}
use Rattle.integers.specs.Basics.{ℕ, zero, suc, refl, ◌∙◌, sym, ap, subst, by_cases, Bool, true, false, List, ◌∷◌, ℕ_discrete, arith, length, get_or}
use native.Mathlib.Numerals.{add-one}
use denote.Param.Members.{Mut}
use Rattle.std.specs.Fn.{Called}
use Rattle.std.specs.Bool.{one_answer}
use Rattle.std.specs.List.{list_all, range_with_len}
use Rattle.std.specs.Range.{range_inclusive_start, range_inclusive_end, range_inclusive_exhausted, range_inclusive_len}
use Rattle.std.specs.Iterator.{ChecksAll}
use Rattle.std.specs.declared.ops.RangeInclusive.{RangeInclusive}
use Rattle.std.proofs.iter.runs.Sources.{nat_range_inclusive_steps}
use Rattle.std.proofs.lemmas.List.FromFn.{length-range_with_len, get_or-range_with_len}
use Rattle.std.proofs.lemmas.Iterator.{YieldsList, cases_from_all}
use Rattle.std.proofs.lemmas.Iterator.Consumers.{YieldsList-from_shown}
use Rattle.std.proofs.lemmas.Iterator.Search.{all_from_yields_List}
use Rattle.ledger.specs.Roster.{Numbered}
use Rattle.limits.proofs.Answers.{both_true, and_true}
use Rattle.memory_layout.specs.Rosters.{every}
use Rattle.memory_layout.proofs.Every.{every_in, every_out}

-- ---- the numbers that `a..=b` has left
abbrev left_of : ℕ → ℕ → Bool → ℕ
left_of = range_inclusive_len (λ x y. y - x)

abbrev left : RangeInclusive ℕ → ℕ
left s = left_of (range_inclusive_start s) (range_inclusive_end s) (range_inclusive_exhausted s)

abbrev numbers_left : RangeInclusive ℕ → List ℕ
numbers_left s = range_with_len (range_inclusive_start s) (left s)

-- a the number that came, b and e the range after it
next_left : (a b e : ℕ) (spent : Bool) → (spent ≡ false → b ≡ a + 1)
    → range_with_len (a + 1) (left_of b e spent) ≡ range_with_len b (left_of b e spent)
next_left a b e true moved = refl
next_left a b e false moved = ap (λ k. range_with_len k (left_of b e false)) (sym (moved refl))

one_more : (a n m : ℕ) → m + 1 ≡ n → range_with_len a n ≡ a ∷ range_with_len (a + 1) m
one_more a n m e = subst (λ k. range_with_len a k ≡ a ∷ range_with_len (a + 1) m) e (rw add-one)

YieldsList-from_inclusive : (s : RangeInclusive ℕ) → YieldsList nat_range_inclusive_steps (λ x. x) s (numbers_left s)
YieldsList-from_inclusive =
    YieldsList-from_shown nat_range_inclusive_steps (λ x. x) numbers_left
    (λ s t h. ap (λ k. length (range_with_len (range_inclusive_start s) k)) h.1.0)
    (λ s x t h. one_more (range_inclusive_start s) (left s) (left t) h.1.1
    ∙ ap (λ k. k ∷ range_with_len (range_inclusive_start s + 1) (left t)) (sym h.1.0)
    ∙ ap (λ k. x ∷ k) (next_left (range_inclusive_start s) (range_inclusive_start t) (range_inclusive_end t)
    (range_inclusive_exhausted t) h.1.2))

from_one : (a b n : ℕ) (spent : Bool) → (a ≡ 1) × (b ≡ n) × (spent ≡ false)
    → range_with_len a (left_of a b spent) ≡ range_with_len 1 n
from_one a b n spent h = rw (h.0, h.1, h.2) (ap (range_with_len 1) (omega arith))

-- ---- a test of each of them
list_out : (test : ℕ → Bool) (a n : ℕ) → list_all test (range_with_len a n) ≡ true → (k : ℕ) → a ≤ k → k < a + n → test k ≡ true
list_out test a zero e k h l = absurd (omega arith)
list_out test a (suc n) e k h l =
    let both = both_true (test a) (list_all test (range_with_len (a + 1) n)) e in
    by_cases (ℕ_discrete k a) (λ same. rw same both.0) (λ apart. list_out test (a + 1) n both.1 k (omega (arith, apart)) (omega arith))

list_in : (test : ℕ → Bool) (a n : ℕ) → ((k : ℕ) → a ≤ k → k < a + n → test k ≡ true) → list_all test (range_with_len a n) ≡ true
list_in test a zero h = refl
list_in test a (suc n) h =
    and_true (test a) (list_all test (range_with_len (a + 1) n)) (h a (omega arith) (omega arith))
    (list_in test (a + 1) n (λ k l u. h k (omega arith) (omega arith)))

every_listed : (test : ℕ → Bool) (n : ℕ) → list_all test (range_with_len 1 n) ≡ every n test
every_listed test n =
    one_answer _ (every n test) (
      (λ e. every_in test n (λ k h. list_out test 1 n e k h.0 (omega arith))),
      λ e. list_in test 1 n (λ k h l. every_out test n e k (h, omega arith)),
    )
    ((λ e. e), λ e. e)

-- s is the range before the call, with r its answer
pub every_of_all : {F : Type 0} {g : Mut F (ℕ × Unit {0}) Bool} {s u : RangeInclusive ℕ} {f : F} (test : ℕ → Bool) (n : ℕ) {r : Bool}
    → ChecksAll nat_range_inclusive_steps g s f r u
    → (range_inclusive_start s ≡ 1) × (range_inclusive_end s ≡ n) × (range_inclusive_exhausted s ≡ false)
    → ((x : ℕ) (b : Bool) (q : F) → Called g f (x, tt) b q → (q ≡ f) × (b ≡ test x)) → r ≡ every n test
every_of_all test n ran from called =
    all_from_yields_List test _ _ _ ran (YieldsList-from_inclusive _) called ∙ ap (list_all test) (from_one _ _ n _ from)
    ∙ every_listed test n

-- ---- a yes of `(1..=n).all(..)` is P of each number from 1 to n, where a yes of each call is P of one
pub each_of_all : {F : Type 0} {g : Mut F (ℕ × Unit {0}) Bool} {s u : RangeInclusive ℕ} {f : F} (n : ℕ) (P : ℕ → Type 0) {r : Bool}
    → ChecksAll nat_range_inclusive_steps g s f r u
    → (range_inclusive_start s ≡ 1) × (range_inclusive_end s ≡ n) × (range_inclusive_exhausted s ≡ false)
    → ((x : ℕ) (b : Bool) (q : F) → Called g f (x, tt) b q → (q ≡ f) × (b ≡ true → P x)) → r ≡ true → (k : ℕ) → Numbered n k → P k
each_of_all {s = s} n P {r} ran from called e k h =
    let yes = cases_from_all _ _ _ P (λ x. Unit {0}) ran (YieldsList-from_inclusive s)
    (λ x q w. let t = called x true q w in (t.0, t.1 refl)) (λ x q w. tt) in
    let all = rw (e, from_one _ _ n _ from) at yes in
    let here : get_or (range_with_len 1 n) (k - 1) 0 ≡ k = omega (arith, get_or-range_with_len 1 n (k - 1) 0 (omega arith)) in
    rw here at (all (k - 1) 0 (omega arith) (omega (arith, length-range_with_len 1 n)))
