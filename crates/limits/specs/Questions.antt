-- Questions in order: a "no" gives the number, and the first "no" is the answer.
use Rattle.std.specs.Prelude.{◌&&◌, ◌∷◌}
use Rattle.integers.specs.Basics.{ℕ, Bool, true, cond, List, [], map, eqb}

pub record Question : Type 0 where
  pub number : ℕ
  pub passes : Bool

abbrev pub numbers_of : List Question → List ℕ
numbers_of qs = map (λ x. x.number) qs

-- the number of the first question that is answered no, else 0
unfoldable pub first_no : List Question → ℕ
first_no [] = 0
first_no (q ∷ qs) = cond q.passes (first_no qs) q.number

-- the questions behind number n
abbrev pub behind : ℕ → List Question → List Question
behind n [] = []
behind n (q ∷ qs) = cond (eqb q.number n) qs (behind n qs)

-- is every question answered yes
unfoldable pub all_pass : List Question → Bool
all_pass [] = true
all_pass (q ∷ qs) = q.passes && all_pass qs
