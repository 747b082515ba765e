-- "Until a limit that applies to them is set again": no event of the list that is accepted sets it, whatever stands around it.
use Rattle.std.specs.Prelude.{◌≡◌, ◌↔◌, ◌&&◌, ◌||◌, ◌∷◌, ◌++◌}
use Rattle.integers.specs.Basics.{ℕ, refl, sym, ap, ⊎_elim, Bool, true, false, not, true≢false, List, []}
use Rattle.integers.specs.Basics.{Option, None, Some, eqb, eq-eqb}
use Rattle.ledger.specs.Positions.{Scope}
use Rattle.limits.proofs.Answers.{both_true}
use Rattle.book.specs.declared.Event.{Event}
use Rattle.book.specs.States.{State, work}
use Rattle.book.specs.EventLists.{RawEvent, as_event, Desk, keep, memory_after, state_after}
use Rattle.book.specs.SetAgain.{LineName, own_line, default_line, group_line, line_set, line_over, SetsAgain}
use Rattle.book.specs.Demand3.{NotSetAgain}

module _ (D : Desk) (a : ℕ) (p : Scope) where
  -- wherever the list is cut before an event e that is accepted there, e does not set the limit again
  abbrev pub NoneSetsAgain : D.Memory → State → List RawEvent → Type 0
  NoneSetsAgain m k es =
      (before : List RawEvent) (e : RawEvent) (behind : List RawEvent)
      → es ≡ before ++ (e ∷ behind)
      → D.answer_to (memory_after D m before) e ≡ 0
      → SetsAgain (state_after D m k before) (as_event e) a p
      → ⊥

  each_does_not : (m : D.Memory) (k : State) (before : List RawEvent) (e : RawEvent) (behind : List RawEvent)
      → NotSetAgain D m k a p (before ++ (e ∷ behind)) → D.answer_to (memory_after D m before) e ≡ 0
      → SetsAgain (state_after D m k before) (as_event e) a p → ⊥
  unfolding memory_after state_after
  each_does_not m k [] e behind out = out.0
  each_does_not m k (x ∷ before) e behind out =
      each_does_not (D.next m x) (keep k (as_event x) (D.answer_to m x)) before e behind out.1

  none_does : (m : D.Memory) (k : State) (es : List RawEvent) → NoneSetsAgain m k es → NotSetAgain D m k a p es
  unfolding memory_after state_after
  none_does m k [] out = tt
  none_does m k (e ∷ es) out = (
    out [] e es refl,
    none_does (D.next m e) (keep k (as_event e) (D.answer_to m e)) es
        (λ before x behind cut. out (e ∷ before) x behind (ap (λ l. e ∷ l) cut)),
  )

  pub not_set_again_iff : (m : D.Memory) (k : State) (es : List RawEvent) → NotSetAgain D m k a p es ↔ NoneSetsAgain m k es
  not_set_again_iff m k es = (
    λ out before e behind cut. each_does_not m k before e behind (rw cut at out),
    none_does m k es,
  )

-- ---- a test that computes, for lists written out
abbrev parts : LineName → ℕ × (ℕ × ℕ)
parts (own_line a i) = (0, (a, i))
parts (default_line a c) = (1, (a, c))
parts (group_line a g) = (2, (a, g))

abbrev same_line : LineName → LineName → Bool
same_line m n = eqb (parts m).0 (parts n).0 && eqb (parts m).1.0 (parts n).1.0 && eqb (parts m).1.1 (parts n).1.1

abbrev is_line : Option LineName → LineName → Bool
is_line None n = false
is_line (Some x) n = same_line x n

same_as_itself : (n : LineName) → same_line n n ≡ true
same_as_itself n = simp (eq-eqb (parts n).0 _ refl, eq-eqb (parts n).1.0 _ refl, eq-eqb (parts n).1.1 _ refl)

is_not_line : (x : Option LineName) (n : LineName) → not (is_line x n) ≡ true → x ≡ Some n → ⊥
is_not_line x n test e = true≢false (sym (rw (e, same_as_itself n) at test))

-- does an event with this answer leave the limit as it is
abbrev leaves_limit : State → ℕ → Scope → Event → ℕ → Bool
leaves_limit k a p e n =
    not (eqb n 0)
    || (not (is_line (line_set e) (line_over k.roster k.book a p))
    && not (is_line (line_set e) (line_over k.roster (work k e).book a p)))

leaves_limit_lem : (k : State) (a : ℕ) (p : Scope) (e : Event) (n : ℕ) → leaves_limit k a p e n ≡ true → n ≡ 0
    → SetsAgain k e a p → ⊥
leaves_limit_lem k a p e n test zero =
    let x = line_set e in
    let y = line_over k.roster k.book a p in
    let z = line_over k.roster (work k e).book a p in
    let apart = both_true (not (is_line x y)) (not (is_line x z)) (rw (eq-eqb n 0 zero) at test) in
    ⊎_elim (is_not_line x y apart.0) (is_not_line x z apart.1)

-- does each event of the list
abbrev pub sets_none : (D : Desk) → D.Memory → State → ℕ → Scope → List RawEvent → Bool
sets_none D m k a p [] = true
sets_none D m k a p (e ∷ es) =
    leaves_limit k a p (as_event e) (D.answer_to m e)
    && sets_none D (D.next m e) (keep k (as_event e) (D.answer_to m e)) a p es

pub sets_none_lem : (D : Desk) (m : D.Memory) (k : State) (a : ℕ) (p : Scope) (es : List RawEvent)
    → sets_none D m k a p es ≡ true → NotSetAgain D m k a p es
sets_none_lem D m k a p [] test = tt
sets_none_lem D m k a p (e ∷ es) test =
    let m' = D.next m e in
    let k' = keep k (as_event e) (D.answer_to m e) in
    let each = both_true (leaves_limit k a p (as_event e) (D.answer_to m e)) (sets_none D m' k' a p es) test in
    (leaves_limit_lem k a p (as_event e) (D.answer_to m e) each.0, sets_none_lem D m' k' a p es each.1)
