-- What a step on a sound desk answers and leaves.
use Rattle.std.specs.Prelude.{◌≡◌}
use Rattle.integers.specs.Basics.{ℕ, ◌∙◌, sym, true, false, List, arith, eq-eqb, ne_eqb}
use Rattle.book.specs.declared.Event.{Event}
use Rattle.limits.specs.declared.answer.Refusal.{Refusal}
use Rattle.limits.specs.Answers.{refusal_number}
use Rattle.book.specs.Decoding.{decode}
use Rattle.book.proofs.Accepted.{unsound_answer}
use Rattle.limits.proofs.Refused.{not_zero}
use Rattle.memory_layout.specs.View.{view}
use Rattle.memory_layout.specs.Judged.{judged}
use Rattle.memory_soundness.specs.Soundness.{sound_desk}
use Rattle.memory_soundness.proofs.SoundDesk.{sound_out}
use Rattle.memory_working.specs.Working.{worked}
use Rattle.desk.specs.Step.{event_questions, answer_to, after_event, stepped}
use Rattle.desk.proofs.Events.{answer_sound, after_refused}

-- ---- a judged event
module _ (m : List ℕ) (e : Event) where
  -- is worked where it is accepted
  pub stepped_worked : 0 ≡ judged m e → worked m e ≡ stepped m e
  unfolding stepped
  stepped_worked told = rw (eq-eqb (judged m e) 0 (sym told))

  -- and else changes nothing
  pub stepped_same : (r : Refusal) → refusal_number r ≡ judged m e → m ≡ stepped m e
  unfolding stepped
  stepped_same r told = rw (ne_eqb (judged m e) 0 (λ z. not_zero r (told ∙ z)))

-- ---- the event entry point
module _ (m e : List ℕ) where
  pub unsound_event : sound_desk m ≡ false → (5 ≡ answer_to m e) × (m ≡ after_event m e)
  unfolding answer_to event_questions
  unsound_event h =
      let five : answer_to m e ≡ 5 = rw h (unsound_answer (view m) (decode e)) in
      (sym five, sym (after_refused m e (λ z. omega (arith, five, z))))

  pub sound_event : (sound : sound_desk m ≡ true) → (judged m (decode e) ≡ answer_to m e) × (stepped m (decode e) ≡ after_event m e)
  unfolding stepped after_event
  sound_event sound =
      let same = answer_sound m e (sound_out m sound) in
      (sym same, rw (same))
