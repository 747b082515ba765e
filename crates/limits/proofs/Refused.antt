-- A refusal has a number that is not 0: computed over the enum's own variants, so that a new one joins by itself.
use Rattle.std.specs.Prelude.{Result, Ok, Err, ◌≡◌, ◌≢◌, ◌&&◌, ◌∷◌}
use Rattle.integers.specs.Basics.{ℕ, refl, ◌∙◌, sym, ap, inl, inr, Bool, true, false, not, false≢true, List, [], eqb, eq-eqb}
use denote.Struct.Field.{Field}
use denote.Enum.Declared.{Choice}
use Rattle.limits.specs.declared.answer.Refusal.{Refusal}
use Rattle.limits.specs.Answers.{refusal_number, number_of}
use Rattle.limits.specs.contracts.answer.Refusal.{the_parts as parts, as_values, the_make as make, the_eta as eta}
use Rattle.limits.proofs.Answers.{both_true}

-- does a test hold of each variant, none of which holds anything
abbrev of_each : (vs : List (List Field)) → (Choice vs → Bool) → Bool
of_each [] t = true
of_each ([] ∷ vs) t = t (inl tt) && of_each vs (λ c. t (inr c))
of_each ((x ∷ xs) ∷ vs) t = false

of_each_lem : (vs : List (List Field)) (t : Choice vs → Bool) → of_each vs t ≡ true → (c : Choice vs) → t c ≡ true
of_each_lem [] t e c = absurd c
of_each_lem ([] ∷ vs) t e (inl v) = (both_true (t (inl tt)) (of_each vs (λ c. t (inr c))) e).0
of_each_lem ([] ∷ vs) t e (inr c) = of_each_lem vs (λ c. t (inr c)) (both_true (t (inl tt)) (of_each vs (λ c. t (inr c))) e).1 c
of_each_lem ((x ∷ xs) ∷ vs) t e c = absurd (false≢true e)

-- the number is not 0
counts : Choice parts → Bool
counts c = not (eqb (refusal_number (make c)) 0)

pub not_zero : (r : Refusal) → refusal_number r ≢ 0
unfolding counts
not_zero r z =
    let v = as_values r in
    false≢true (sym (ap not (eq-eqb (refusal_number (make v)) 0 (ap refusal_number (eta r) ∙ z))) ∙ of_each_lem parts counts refl v)

-- so the number 0 is the acceptance's alone
pub accepted : {A : Type 0} (a : Result A Refusal) → number_of a ≡ 0 → (x : A) × (a ≡ Ok x)
accepted (Ok x) e = (x, refl)
accepted (Err r) e = absurd (not_zero r e)
