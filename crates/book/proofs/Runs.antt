-- A list of events at a desk that meets the contract: after every list the memory shows the kept book, and that is sound.
use Rattle.std.specs.Prelude.{◌≡◌, ◌≢◌, ◌∷◌}
use Rattle.integers.specs.Basics.{ℕ, ◌∙◌, sym, by_cases, List, [], ℕ_discrete, eq-eqb, ne_eqb}
use Rattle.book.specs.States.{State, work}
use Rattle.book.specs.Table.{answer}
use Rattle.book.specs.Sound.{Sound}
use Rattle.book.specs.EventLists.{RawEvent, as_event, Desk, keep, memory_after, state_after}
use Rattle.book.specs.Contract.{Contract}
use Rattle.book.proofs.Decoded.{decoded_id}
use Rattle.book.proofs.SoundSteps.{sound_step}

-- what is kept: nothing of a refused event, and an accepted one is worked
pub keep_refused : (k : State) (e : RawEvent) (n : ℕ) → n ≢ 0 → keep k (as_event e) n ≡ k
unfolding keep
keep_refused k e n h = rw (ne_eqb n 0 h)

pub keep_accepted : (k : State) (e : RawEvent) (n : ℕ) → n ≡ 0 → keep k (as_event e) n ≡ work k (as_event e)
unfolding keep
keep_accepted k e n z = rw (eq-eqb n 0 z)

module _ {D : Desk} (C : Contract D) where
  -- the memory shows what is kept, and that is sound
  pub record Holds (m : D.Memory) (k : State) : Type 0 where
    pub shown : C.Shows m k
    pub sound : Sound k

  pub answers : (m : D.Memory) (k : State) (e : RawEvent) → Holds m k → D.answer_to m e ≡ answer k (as_event e)
  answers m k e h = C.judged m k e h.shown h.sound

  pub holds_worked : (m : D.Memory) (k : State) (e : RawEvent) → Holds m k → D.answer_to m e ≡ 0 → Holds (D.next m e) (work k (as_event e))
  holds_worked m k e h zero =
      record {
        shown = C.worked m k e h.shown h.sound zero;
        sound = sound_step k h.sound (as_event e) (decoded_id e.bytes) (sym (answers m k e h) ∙ zero);
      }

  pub holds_next : (m : D.Memory) (k : State) (e : RawEvent) → Holds m k → Holds (D.next m e) (keep k (as_event e) (D.answer_to m e))
  holds_next m k e h =
      by_cases (ℕ_discrete (D.answer_to m e) 0)
      (λ zero. rw (keep_accepted k e (D.answer_to m e) zero) (holds_worked m k e h zero))
      (λ other. rw (keep_refused k e (D.answer_to m e) other, C.refused m e other) h)

  pub holds_after : (m : D.Memory) (k : State) (es : List RawEvent) → Holds m k → Holds (memory_after D m es) (state_after D m k es)
  unfolding memory_after state_after
  holds_after m k [] h = h
  holds_after m k (e ∷ es) h = holds_after (D.next m e) (keep k (as_event e) (D.answer_to m e)) es (holds_next m k e h)

  -- so after every list the answer to any event is the table's, of the kept book, and never question 5's
  pub answers_after : (m : D.Memory) (k : State) (es : List RawEvent) → Holds m k → (n : RawEvent)
      → D.answer_to (memory_after D m es) n ≡ answer (state_after D m k es) (as_event n)
  answers_after m k es h n = answers (memory_after D m es) (state_after D m k es) n (holds_after m k es h)
