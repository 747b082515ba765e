-- An account is asked 7 alone, and only where all was accepted so far; it stands anywhere, and yields no event.
use Rattle.std.specs.Prelude.{◌≡◌, ◌∷◌, ◌≢◌, Result, Ok, Err}
use Rattle.std.specs.Result.{result_and}
use Rattle.integers.specs.Basics.{ℕ, zero, suc, refl, ◌∙◌, ap, true, cond, List, []}
use Rattle.limits.specs.declared.answer.Refusal.{Refusal}
use Rattle.limits.specs.Answers.{number_of, refusal_number}
use Rattle.limits.proofs.Refused.{not_zero}
use Rattle.limits.specs.Questions.{first_no}
use Rattle.book.specs.Decoding.{between}
use Rattle.memory_layout.specs.View.{roster_of}
use Rattle.memory_soundness.specs.SoundMemory.{SoundMemory}
use Rattle.memory_loading.specs.declared.progress.Progress.{Progress}
use Rattle.grammar.specs.Bytes.{all}
use Rattle.memory_loading.specs.Entries.{account_entry}
use Rattle.memory_loading.specs.Loading.{in_place, questions_of, each_limited, all_worked}
use Rattle.memory_loading.specs.Passing.{first_of, Passed}
use Rattle.memory_loading.proofs.Passes.{and_true, kept_self}
use Rattle.memory_loading.proofs.progress.Accounts.enter.Goals as goal

passed_account : (m : List ℕ) (a : ℕ) {j k : Progress} → SoundMemory m → k.right ≡ j.right
    → number_of k.first ≡ first_of (number_of j.first) (cond (between 1 (roster_of m).accounts a) 0 7)
    → Passed m (account_entry a ∷ []) true j m k
unfolding all in_place questions_of first_no each_limited all_worked
passed_account m a {j} held right first =
    record { right = right ∙ and_true j.right; first = first; all_worked_lem = λ z. refl; kept = kept_self held }

above_first : (a b : ℕ) → a ≢ 0 → a ≡ first_of a b
above_first zero b h = absurd (h refl)
above_first (suc a) b h = refl

-- the first of two answers that is a refusal
first_refusal : (a b : Result (Unit {0}) Refusal) → number_of (result_and a b) ≡ first_of (number_of a) (number_of b)
first_refusal (Ok t) b = refl
first_refusal (Err r) b = above_first (refusal_number r) (number_of b) (not_zero r)

pub returns : goal.returns
returns c =
    passed_account _ _ c.requires refl
    (ap number_of c.and-first.ensures ∙ first_refusal _ _ ∙ ap (first_of _) (rw c.of.ensures at c.judge_account.ensures))
