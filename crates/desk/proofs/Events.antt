-- An event at a desk: a refusal leaves the memory, an acceptance works it and tells that the desk is sound; on a sound desk the answer
-- is the judge's.
use Rattle.std.specs.Prelude.{◌≡◌, ◌≢◌}
use Rattle.integers.specs.Basics.{ℕ, refl, Bool, true, false, List, arith, eq-eqb, ne_eqb}
use Rattle.limits.specs.Questions.{first_no}
use Rattle.book.specs.Decoding.{decode}
use Rattle.book.specs.Table.{questions}
use Rattle.book.proofs.Accepted.{sound_answer, unsound_answer}
use Rattle.memory_layout.specs.View.{view}
use Rattle.memory_layout.specs.Judged.{judged}
use Rattle.memory_soundness.specs.Soundness.{sound_desk}
use Rattle.memory_soundness.specs.SoundMemory.{SoundMemory}
use Rattle.memory_soundness.proofs.SoundDesk.{sound_in}
use Rattle.memory_working.specs.Working.{worked}
use Rattle.desk.specs.Step.{event_questions, answer_to, after_event}

module _ (m e : List ℕ) where
  pub after_refused : answer_to m e ≢ 0 → after_event m e ≡ m
  unfolding after_event
  after_refused h = rw (ne_eqb (answer_to m e) 0 h)

  pub after_accepted : answer_to m e ≡ 0 → after_event m e ≡ worked m (decode e)
  unfolding after_event
  after_accepted h = rw (eq-eqb (answer_to m e) 0 h)

  -- an acceptance tells that the desk is sound
  pub first_passes : answer_to m e ≡ 0 → sound_desk m ≡ true
  unfolding answer_to event_questions
  first_passes z = by (sound_desk m) refl z
    where
      by : (t : Bool) → sound_desk m ≡ t → first_no (questions t (view m) (decode e)) ≡ 0 → sound_desk m ≡ true
      by true h z = h
      by false h z = absurd (omega (arith, unsound_answer (view m) (decode e)))

  -- on a sound desk the answer is the judge's
  pub answer_sound : SoundMemory m → answer_to m e ≡ judged m (decode e)
  unfolding answer_to event_questions judged
  answer_sound held = rw (sound_in m held) (sound_answer (view m) (decode e))
