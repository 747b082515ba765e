-- A loop that tests every number from 1 to n and leaves at the first no, by what holds before each turn.
use Rattle.std.specs.Prelude.{◌+◌, ◌≤◌, ◌<◌, ◌≡◌, ◌&&◌}
use Rattle.integers.specs.Basics.{ℕ, zero, suc, refl, ◌∙◌, sym, by_cases, Bool, true, false, not, ℕ_discrete}
use Rattle.integers.specs.Basics.{arith, not-true, not-false}
use native.Mathlib.Numerals.{add-one}
use Rattle.limits.proofs.Answers.{and_true}
use Rattle.memory_layout.specs.Rosters.{every}

and-false : (b : Bool) → b && false ≡ false
and-false true = refl
and-false false = refl

module _ (test : ℕ → Bool) where
  pub every_none : every 0 test ≡ true
  unfolding every
  every_none = refl

  fails : (n k : ℕ) → k < n → test (suc k) ≡ false → every n test ≡ false
  unfolding every
  fails zero k h f = absurd (omega arith)
  fails (suc n) k h f =
      by_cases (ℕ_discrete k n) (λ same. rw (← same, f, and-false)) (λ apart. rw (fails n k (omega (arith, apart)) f))

  -- ---- a loop that leaves at the first no: t is its answer at number j + 1
  pub every_no : (n j : ℕ) (t : Bool) → j < n → t ≡ test (j + 1) → not t ≡ true → false ≡ every n test
  every_no n j t h e f =
      let here : test (j + 1) ≡ false = sym e ∙ not-true t f in
      sym (fails n j h (rw add-one at here))

  pub every_on : (j : ℕ) (t : Bool) → every j test ≡ true → t ≡ test (j + 1) → not t ≡ false → every (j + 1) test ≡ true
  unfolding every
  every_on j t was e on =
      let here : test (j + 1) ≡ true = sym e ∙ not-false t on in
      rw add-one (and_true (every j test) (test (suc j)) was (rw add-one at here))

  pub every_all : (n j : ℕ) → j ≤ n → n ≤ j → every j test ≡ true → true ≡ every n test
  every_all n j h l was =
      let same : j ≡ n = omega arith in
      sym (rw same at was)

  -- ---- the same loop, by what holds before turn j
  pub record SoFar (n j : ℕ) : Type 0 where
    pub within : j ≤ n
    pub yes : every j test ≡ true

  pub so_far_none : (n : ℕ) → SoFar n 0
  so_far_none n = record { within = omega arith; yes = every_none }

  pub so_far_on : {n j : ℕ} (t : Bool) → SoFar n j → j < n → t ≡ test (j + 1) → not t ≡ false → SoFar n (j + 1)
  so_far_on {n} {j} t was h e on = record { within = omega arith; yes = every_on j t was.yes e on }

  pub so_far_all : {n j : ℕ} → SoFar n j → n ≤ j → true ≡ every n test
  so_far_all {n} {j} was end = every_all n j was.within end was.yes
