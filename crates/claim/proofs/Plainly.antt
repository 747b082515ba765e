-- From a fresh desk every answer is that of the table asked of the plain book, so that a list of events written out can be computed.
use Rattle.std.specs.Prelude.{◌≡◌, ◌∷◌, ◌++◌}
use Rattle.integers.specs.Basics.{ℕ, refl, ◌∙◌, true, List, [], map}
use Rattle.words.specs.Bytes.{Bytes}
use Rattle.ledger.specs.Positions.{Scope}
use Rattle.ledger.specs.Roster.{Roster}
use Rattle.book.specs.declared.Event.{Event}
use Rattle.book.specs.Market.{derivatives}
use Rattle.book.specs.Table.{answer}
use Rattle.book.specs.States.{State, begun}
use Rattle.book.specs.EventLists.{RawEvent, as_event, keep, memory_after, state_after}
use Rattle.book.specs.Days.{answers_to, end_of}
use Rattle.book.proofs.Plain.{plain}
use Rattle.book.proofs.StateLaws.{memory_joined, state_joined}
use Rattle.book.proofs.NotSetAgainLaws.{sets_none, sets_none_lem}
use Rattle.memory_opening.specs.Questions.{roster_from, opening_answer}
use Rattle.memory_opening.specs.Opening.{after_opening}
use Rattle.desk.specs.Step.{answer_to, after_event}
use Rattle.desk.specs.Days.{answers_over}
use Rattle.claim.specs.GateDemands.{gate}
use Rattle.claim.specs.Examples.{NoneOnTheLine}
use Rattle.claim.proofs.Held.{Held, none_on_the_line}
use Rattle.claim.proofs.Demands.{demand_3}

abbrev pub as_events : List RawEvent → List Event
as_events [] = []
as_events (e ∷ es) = as_event e ∷ as_events es

-- after any events from memory m on, of which k is kept, an event is answered by the table of what is kept then
abbrev pub Plainly : List ℕ → State → Type 0
Plainly m k =
    (before : List RawEvent) (e : RawEvent)
    → answer_to (memory_after gate m before) e.bytes
    ≡ answer (state_after gate m k before) (as_event e)

-- so it is from an opening, by demand 3
pub plainly : (m s : List ℕ) → Bytes m → opening_answer m s ≡ 0 → Plainly (after_opening m s) (begun derivatives (roster_from s))
plainly m s bytes opens before e = (demand_3 m s bytes opens before).1 e

pub plainly_after : (m : List ℕ) (k : State) → Plainly m k → (es : List RawEvent)
    → Plainly (memory_after gate m es) (state_after gate m k es)
plainly_after m k h es before e =
    rw (← memory_joined gate m es before, ← state_joined gate m k es before) (h (es ++ before) e)

plainly_next : (m : List ℕ) (k : State) → Plainly m k → (e : RawEvent)
    → Plainly (after_event m e.bytes) (keep k (as_event e) (answer k (as_event e)))
unfolding memory_after state_after
plainly_next m k h e =
    let after_it : Plainly (after_event m e.bytes) (keep k (as_event e) (answer_to m e.bytes)) =
    λ before x. h (e ∷ before) x in
    rw (h [] e) at after_it

-- what is kept, and the answers, computed of the plain book
pub state_plainly : (m : List ℕ) (k : State) → Plainly m k → (es : List RawEvent)
    → state_after gate m k es ≡ end_of k (as_events es)
unfolding memory_after state_after
state_plainly m k h [] = refl
state_plainly m k h (e ∷ es) =
    rw (h [] e) (state_plainly (after_event m e.bytes) (keep k (as_event e) (answer k (as_event e))) (plainly_next m k h e) es)

pub answers_plainly : (m : List ℕ) (k : State) → Plainly m k → (es : List RawEvent)
    → answers_over m (map (λ e. e.bytes) es) ≡ answers_to k (as_events es)
unfolding memory_after state_after answers_over
answers_plainly m k h [] = refl
answers_plainly m k h (e ∷ es) =
    rw (
      h [] e,
      answers_plainly (after_event m e.bytes)
          (keep k (as_event e) (answer k (as_event e))) (plainly_next m k h e) es,
    )

-- whether an event of a list sets a limit again, computed of the plain book
sets_none_plainly : (m : List ℕ) (k : State) → Plainly m k → (a : ℕ) (p : Scope) (es : List RawEvent)
    → sets_none gate m k a p es ≡ sets_none plain k k a p es
unfolding memory_after state_after
sets_none_plainly m k h a p [] = refl
sets_none_plainly m k h a p (e ∷ es) =
    rw (
      h [] e,
      sets_none_plainly (after_event m e.bytes)
          (keep k (as_event e) (answer k (as_event e))) (plainly_next m k h e) a p es,
    )

pub none_sets_again : (r : Roster) (m : List ℕ) (k : State) → Held r k → Plainly m k → (a : ℕ) (p : Scope) (es : List RawEvent)
    → sets_none plain k k a p es ≡ true → NoneOnTheLine r m k a p es
none_sets_again r m k held h a p es test =
    (none_on_the_line r m k held a p es).0 (sets_none_lem gate m k a p es (sets_none_plainly m k h a p es ∙ test))
