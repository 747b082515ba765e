-- Tables of questions: the answer is the first that fails, and one of the table's numbers.
use Rattle.std.specs.Prelude.{◌≡◌, ◌≢◌, ◌∷◌}
use Rattle.integers.specs.Basics.{ℕ, refl, ◌∙◌, sym, ap, inl, inr, Bool, true, false, cond, List, []}
use Rattle.limits.specs.Questions.{Question, numbers_of, first_no, all_pass}
use Rattle.limits.proofs.Answers.{and_true, Counted, pass_zero, zero_pass, append_passed}
use Rattle.claim.specs.GateDemands.{OneOf, FirstFailed, Answers}

-- ---- the first that fails
module _ (n : ℕ) (some_number : n ≢ 0) where
  fails : (qs : List Question) → first_no qs ≡ n → FirstFailed qs n
  unfolding first_no all_pass
  fails [] e = absurd (some_number (sym e))
  fails (q ∷ qs) e = by (fails qs) q.passes refl e
    where
      later : FirstFailed qs n → q.passes ≡ true → FirstFailed (q ∷ qs) n
      later f p =
          record {
            before = q ∷ f.before;
            asked = f.asked;
            behind = f.behind;
            table = ap (λ (l : List Question). q ∷ l) f.table;
            passed = and_true q.passes (all_pass f.before) p f.passed;
            failed = f.failed;
            number = f.number;
          }

      here : q.passes ≡ false → q.number ≡ n → FirstFailed (q ∷ qs) n
      here p k =
          record { before = []; asked = q; behind = qs; table = refl; passed = refl; failed = p; number = k }

      by : (first_no qs ≡ n → FirstFailed qs n) → (t : Bool) → q.passes ≡ t → cond t (first_no qs) q.number ≡ n → FirstFailed (q ∷ qs) n
      by rest true p e = later (rest e) p
      by rest false p e = here p e

  failed : (qs : List Question) → FirstFailed qs n → first_no qs ≡ n
  unfolding first_no
  failed qs f =
      ap first_no f.table ∙ append_passed f.before (f.asked ∷ f.behind) f.passed ∙ rw f.failed f.number

pub answers : (qs : List Question) → Counted qs → Answers qs (first_no qs)
answers qs counted =
    record {
      refused = λ n some_number. (fails n some_number qs, failed n some_number qs);
      accepted = (zero_pass qs counted, pass_zero qs);
    }

-- ---- an answer is 0 or the number of a question
pub answer_one_of : (qs : List Question) → OneOf (first_no qs) (0 ∷ numbers_of qs)
unfolding first_no
answer_one_of [] = inl refl
answer_one_of (q ∷ qs) = by q.passes (answer_one_of qs)
  where
    by : (t : Bool) → OneOf (first_no qs) (0 ∷ numbers_of qs) → OneOf (cond t (first_no qs) q.number) (0 ∷ numbers_of (q ∷ qs))
    by true (inl zero) = inl zero
    by true (inr later) = inr (inr later)
    by false rest = inr (inl refl)
