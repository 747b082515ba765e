-- Events written out, whose bytes are computed to be bytes, as a list of demand 3: what is answered and kept is computed of the plain book.
use Rattle.std.specs.Prelude.{◌≡◌, ◌∷◌, ◌++◌}
use Rattle.integers.specs.Basics.{ℕ, zero, suc, refl, ◌∙◌, ap, true, List, [], map, ltb, arith, ltb-true}
use Rattle.words.specs.Bytes.{Bytes}
use Rattle.limits.proofs.Answers.{both_true, and_true}
use Rattle.book.specs.Decoding.{decode}
use Rattle.book.specs.Table.{answer}
use Rattle.book.specs.States.{State}
use Rattle.book.specs.EventLists.{RawEvent, memory_after, state_after}
use Rattle.book.specs.Days.{answers_to, end_of, decoded, are_bytes, all_bytes}
use Rattle.desk.specs.Step.{answer_to}
use Rattle.desk.specs.Days.{answers_over, memory_over}
use Rattle.claim.specs.GateDemands.{gate}
use Rattle.claim.proofs.RunList.{run_is_the_list}
use Rattle.claim.proofs.Plainly.{as_events, Plainly, state_plainly, answers_plainly}

-- ---- bytes, computed
pub bytes_are : (l : List ℕ) → are_bytes l ≡ true → Bytes l
bytes_are [] e i = omega arith
bytes_are (b ∷ bs) e zero = ltb-true b 256 (both_true (ltb b 256) (are_bytes bs) e).0
bytes_are (b ∷ bs) e (suc i) = bytes_are bs (both_true (ltb b 256) (are_bytes bs) e).1 i

pub bytes_apart : (es : List (List ℕ)) (e : List ℕ) → all_bytes (es ++ (e ∷ [])) ≡ true → (all_bytes es ≡ true) × (are_bytes e ≡ true)
bytes_apart [] e h = (refl, (both_true (are_bytes e) true h).0)
bytes_apart (x ∷ xs) e h =
    let b = both_true (are_bytes x) (all_bytes (xs ++ (e ∷ []))) h in
    let rest = bytes_apart xs e b.1 in
    (and_true (are_bytes x) (all_bytes xs) b.0 rest.0, rest.1)

-- ---- the events of these bytes
abbrev raw : (e : List ℕ) → are_bytes e ≡ true → RawEvent
raw e are = record { bytes = e; are = bytes_are e are }

abbrev pub raws : (es : List (List ℕ)) → all_bytes es ≡ true → List RawEvent
raws [] are = []
raws (e ∷ es) are =
    let both = both_true (are_bytes e) (all_bytes es) are in
    raw e both.0 ∷ raws es both.1

same_bytes : (es : List (List ℕ)) (are : all_bytes es ≡ true) → map (λ e. e.bytes) (raws es are) ≡ es
same_bytes [] are = refl
same_bytes (e ∷ es) are = ap (λ l. e ∷ l) (same_bytes es (both_true (are_bytes e) (all_bytes es) are).1)

same_events : (es : List (List ℕ)) (are : all_bytes es ≡ true) → as_events (raws es are) ≡ decoded es
same_events [] are = refl
same_events (e ∷ es) are = ap (λ l. decode e ∷ l) (same_events es (both_true (are_bytes e) (all_bytes es) are).1)

-- ---- the answers along a list, and what is kept at its end
module _ (m : List ℕ) (k : State) (h : Plainly m k) (es : List (List ℕ)) (are : all_bytes es ≡ true) where
  pub answers_carried : answers_over m es ≡ answers_to k (decoded es)
  answers_carried = rw (same_bytes es are, same_events es are) at (answers_plainly m k h (raws es are))

  pub memory_carried : memory_over m es ≡ memory_after gate m (raws es are)
  memory_carried = rw (same_bytes es are) at (run_is_the_list.memory m (raws es are))

  pub state_carried : state_after gate m k (raws es are) ≡ end_of k (decoded es)
  state_carried = state_plainly m k h (raws es are) ∙ ap (end_of k) (same_events es are)

  pub answer_carried : (e : List ℕ) → are_bytes e ≡ true → answer_to (memory_over m es) e ≡ answer (end_of k (decoded es)) (decode e)
  answer_carried e its = rw memory_carried (h (raws es are) (raw e its) ∙ ap (λ x. answer x (decode e)) state_carried)
