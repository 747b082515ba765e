-- Laws of a list of questions: the first no, and what an answer of 0 says of each question.
use Rattle.std.specs.Prelude.{◌≤◌, ◌≡◌, ◌≢◌, ◌&&◌, ◌||◌, ◌∷◌, ◌++◌}
use Rattle.integers.specs.Basics.{ℕ, refl, ◌∙◌, sym, Bool, true, false, not, cond, true≢false, false≢true, List}
use Rattle.integers.specs.Basics.{[], eqb, arith, eq-eqb, ne_eqb}
use Rattle.ledger.proofs.Ways.{by_test, by_number}
use Rattle.limits.specs.Questions.{Question, first_no, behind, all_pass}

-- ---- tests joined
pub both_true : (x y : Bool) → x && y ≡ true → (x ≡ true) × (y ≡ true)
both_true true y e = (refl, e)
both_true false y e = absurd (false≢true e)

pub and_true : (x y : Bool) → x ≡ true → y ≡ true → x && y ≡ true
and_true x y d e = rw (d, e)

-- a test that is asked where m: not m || t
pub asked_true : (m t : Bool) → not m || t ≡ true → m ≡ true → t ≡ true
asked_true true t e h = e
asked_true false t e h = cc

pub asked_false : (m t : Bool) → not m || t ≡ false → (m ≡ true) × (t ≡ false)
asked_false true t e = (refl, e)
asked_false false t e = absurd (true≢false e)

-- ---- the numbers are above 0
abbrev pub Counted : List Question → Type 0
Counted [] = Unit
Counted (q ∷ qs) = (1 ≤ q.number) × Counted qs

-- a passed question is found by its number: the answer to question n, yes where no question has that number
abbrev pub passes_at : ℕ → List Question → Bool
passes_at n [] = true
passes_at n (q ∷ qs) = cond (eqb q.number n) q.passes (passes_at n qs)

pub passed : (qs : List Question) → all_pass qs ≡ true → (n : ℕ) → passes_at n qs ≡ true
unfolding all_pass
passed [] e n = refl
passed (q ∷ qs) e n =
    let h = both_true q.passes (all_pass qs) e in
    by_number q.number n (λ t. cond t q.passes (passes_at n qs) ≡ true) (λ _. h.0) (λ _. passed qs h.1 n)

pub pass_zero : (qs : List Question) → all_pass qs ≡ true → first_no qs ≡ 0
unfolding first_no all_pass
pass_zero [] e = refl
pass_zero (q ∷ qs) e =
    let h = both_true q.passes (all_pass qs) e in
    rw h.0 (pass_zero qs h.1)

pub zero_pass : (qs : List Question) → Counted qs → first_no qs ≡ 0 → all_pass qs ≡ true
unfolding first_no all_pass
zero_pass [] c e = refl
zero_pass (q ∷ qs) c e =
    by_test q.passes (λ t. rw t (zero_pass qs c.1 (rw t at e))) (λ t. absurd (omega (arith, c.0, rw t at e)))

-- the first no of two lists of questions, one after the other
pub append_first : (xs ys : List Question) → first_no (xs ++ ys) ≡ cond (all_pass xs) (first_no ys) (first_no xs)
unfolding first_no all_pass
append_first [] ys = refl
append_first (q ∷ xs) ys = by_test q.passes (λ t. rw t (append_first xs ys)) (λ t. rw t)

-- where the first list passes, the second answers
pub append_passed : (xs ys : List Question) → all_pass xs ≡ true → first_no (xs ++ ys) ≡ first_no ys
append_passed xs ys e = rw (append_first xs ys, e)

-- where the first list refuses, it answers
pub append_refused : (xs ys : List Question) → first_no xs ≢ 0 → first_no (xs ++ ys) ≡ first_no xs
append_refused xs ys refused =
    append_first xs ys ∙ by_test (all_pass xs) (λ t. absurd (refused (pass_zero xs t))) (λ t. rw t)

-- an answer of 0 passes both
pub append_zero : (xs ys : List Question) → Counted xs → first_no (xs ++ ys) ≡ 0 → (all_pass xs ≡ true) × (first_no ys ≡ 0)
append_zero xs ys c e =
    let z = sym (append_first xs ys) ∙ e in
    by_test (all_pass xs) (λ t. (t, rw t at z)) (λ t. absurd (false≢true (sym t ∙ zero_pass xs c (rw t at z))))

-- so that the first list refuses nothing
pub first_zero : (xs ys : List Question) → first_no (xs ++ ys) ≡ 0 → first_no xs ≡ 0
first_zero xs ys e = by_test (all_pass xs) (pass_zero xs) (λ t. rw t at (sym (append_first xs ys) ∙ e))

-- ---- a number that no question has is no answer
abbrev pub Without : ℕ → List Question → Type 0
Without n [] = Unit
Without n (q ∷ qs) = (q.number ≢ n) × Without n qs

pub never_answered : (n : ℕ) (qs : List Question) → n ≢ 0 → Without n qs → first_no qs ≢ n
unfolding first_no
never_answered n [] some_number w = λ e. some_number (sym e)
never_answered n (q ∷ qs) some_number w =
    by_test q.passes (λ t. rw t (never_answered n qs some_number w.1)) (λ t. rw t w.0)

-- ---- behind a question's number stand those that follow it, where none before it has that number
pub follow : (before : List Question) (q : Question) (qs : List Question) → Without q.number before
    → behind q.number (before ++ (q ∷ qs)) ≡ qs
follow [] q qs h = rw (eq-eqb q.number q.number refl)
follow (x ∷ before) q qs h = rw (ne_eqb x.number q.number h.0) (follow before q qs h.1)
