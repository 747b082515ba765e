-- Two lists of questions in turn: where the first is answered by a refusal, that is the answer, and else the second gives it.
use Rattle.std.specs.Prelude.{◌≡◌, ◌++◌}
use Rattle.integers.specs.Basics.{ℕ, by_cases, true, false, cond, List, eqb, ℕ_discrete, arith, eq-eqb, ne_eqb}
use Rattle.ledger.specs.declared.order.Order.{Order}
use Rattle.limits.specs.Questions.{Question, first_no}
use Rattle.limits.specs.Asked.{limits_set}
use Rattle.limits.specs.declared.answer.Refusal.{Refusal}
use Rattle.limits.specs.Answers.{refusal_number}
use Rattle.limits.proofs.Refused.{not_zero}
use Rattle.limits.proofs.Answers.{Counted, passed, zero_pass, append_passed, append_refused}
use Rattle.memory_layout.specs.View.{roster_of, lines_of}
use Rattle.memory_judging.specs.OrderQuestions.{admission}

-- the first no of both
pub first_of_both : (xs ys : List Question) → Counted xs
    → first_no (xs ++ ys) ≡ cond (eqb (first_no xs) 0) (first_no ys) (first_no xs)
first_of_both xs ys c =
    by_cases (ℕ_discrete (first_no xs) 0)
    (λ z. rw (eq-eqb (first_no xs) 0 z) (append_passed xs ys (zero_pass xs c z)))
    (λ n. rw (ne_eqb (first_no xs) 0 n) (append_refused xs ys n))

-- a refusal is a no
pub refusal_counts : (r : Refusal) → eqb (refusal_number r) 0 ≡ false
refusal_counts r = ne_eqb (refusal_number r) 0 (not_zero r)

-- ---- questions 14 to 17 before others
module _ (m : List ℕ) (o : Order) where
  pub admission_first : (ys : List Question)
      → first_no (admission m o ++ ys) ≡ cond (eqb (first_no (admission m o)) 0) (first_no ys) (first_no (admission m o))
  unfolding admission
  admission_first ys = first_of_both (admission m o) ys (omega arith)

  pub limits_set_lem : first_no (admission m o) ≡ 0 → limits_set (roster_of m) (lines_of m o.account) o ≡ true
  unfolding admission
  limits_set_lem e = passed (admission m o) (zero_pass (admission m o) (omega arith) e) 17
