-- The gate over bytes meets the contract that demand 3 asks of a desk, and so keeps demand 3 from any memory that shows a sound book.
use Rattle.std.specs.Prelude.{◌≡◌}
use Rattle.integers.specs.Basics.{ℕ, ◌∙◌, sym, ap, subst, List}
use Rattle.words.specs.Bytes.{Bytes}
use Rattle.book.specs.Decoding.{decode}
use Rattle.book.specs.States.{State, work}
use Rattle.book.specs.Table.{answer}
use Rattle.book.specs.Sound.{Sound}
use Rattle.book.specs.EventLists.{RawEvent, as_event, memory_after, state_after}
use Rattle.book.specs.Demand3.{Demand3At}
use Rattle.book.specs.Contract.{Contract}
use Rattle.book.proofs.Decoded.{decoded_id}
use Rattle.book.proofs.Runs.{holds_after, answers_after}
use Rattle.book.proofs.Demand3Proof.{demand3}
use Rattle.memory_layout.specs.View.{view}
use Rattle.memory_layout.specs.Judged.{judged}
use Rattle.memory_soundness.specs.SoundMemory.{SoundMemory}
use Rattle.memory_working.proofs.Writes.{bytes_worked}
use Rattle.memory_working.proofs.Small.{decoded_sized}
use Rattle.memory_working.proofs.ViewWorked.{view_worked}
use Rattle.memory_working.proofs.SoundWorked.{sound_worked}
use Rattle.desk.specs.Step.{answer_to, after_event}
use Rattle.desk.proofs.Events.{after_refused, after_accepted, answer_sound}
use Rattle.claim.specs.GateDemands.{gate}

-- ---- a memory that holds a sound desk, and shows k
pub record Shown (m : List ℕ) (k : State) : Type 0 where
  pub bytes : Bytes m
  pub held : SoundMemory m
  pub shows : view m ≡ k

judged_shown : (m : List ℕ) (k : State) (e : List ℕ) → view m ≡ k → judged m (decode e) ≡ answer k (decode e)
unfolding judged
judged_shown m k e shows = ap (λ (x : State). answer x (decode e)) shows

worked_shown : (m : List ℕ) (k : State) (e : RawEvent) → Shown m k → answer_to m e.bytes ≡ 0
    → Shown (after_event m e.bytes) (work k (as_event e))
worked_shown m k e shown zero =
    let passes = sym (answer_sound m e.bytes shown.held) ∙ zero in
    let word = decoded_sized e.bytes e.are in
    rw (after_accepted m e.bytes zero)
    (record {
      bytes = bytes_worked m shown.held (as_event e) passes shown.bytes;
      held = sound_worked m shown.bytes shown.held (as_event e) word (decoded_id e.bytes) passes;
      shows = view_worked m shown.bytes shown.held (as_event e) word passes ∙ ap (λ (x : State). work x (as_event e)) shown.shows;
    })

contract : Contract gate
contract =
    record {
      Shows = Shown;
      judged = λ m k e shown sound. answer_sound m e.bytes shown.held ∙ judged_shown m k e.bytes shown.shows;
      worked = λ m k e shown sound zero. worked_shown m k e shown zero;
      refused = λ m e h. after_refused m e.bytes h;
    }

-- ---- a list of events, from any memory that shows a sound book
module _ (m : List ℕ) (k : State) (shown : Shown m k) where
  sound : Sound k
  sound = subst Sound shown.shows shown.held.book

  pub shown_after : (events : List RawEvent) → Shown (memory_after gate m events) (state_after gate m k events)
  unfolding contract
  shown_after events = (holds_after contract m k events (record { shown = shown; sound = sound })).shown

  pub answers_table : (events : List RawEvent) (n : RawEvent)
      → answer_to (memory_after gate m events) n.bytes ≡ answer (state_after gate m k events) (as_event n)
  unfolding contract
  answers_table events n = answers_after contract m k events (record { shown = shown; sound = sound }) n

  pub demand_3_at : Demand3At gate m k
  unfolding contract
  demand_3_at = demand3 contract m k shown sound
