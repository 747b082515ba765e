-- An unsound desk answers 5 and writes nothing (`unsound_event`); a sound one steps on the decoded event (`sound_event`). Either way
-- the memory stays as sound as it was (`sound_after`), so the next event need not ask again.
use Rattle.integers.specs.Basics.{◌∙◌, sym, ap, rules}
use Rattle.memory_soundness.specs.Soundness.{sound_desk}
use Rattle.memory_soundness.proofs.SoundDesk.{sound_out}
use Rattle.desk.proofs.Stepped.{unsound_event, sound_event}
use Rattle.desk.proofs.SoundAfter.{sound_after}
use Rattle.desk.proofs.run.answer_next.Goals as goal

pub returns-then-not-sound : goal.returns-then-not-sound
returns-then-not-sound c =
    let same = unsound_event _ _ (sym c.requires.0 ∙ c.if-not-sound.true) in
    record { answer = c.number_of.ensures ∙ same.0; memory = same.1; sound = c.requires.0; sums = c.requires.1 }

pub step-requires : goal.step-requires
step-requires c = (sound_out _ (sym c.requires.0 ∙ c.if-not-sound.false), c.requires.1 c.if-not-sound.false)

pub returns : goal.returns
returns c =
    let same = sound_event _ _ (sym c.requires.0 ∙ c.if-not-sound.false) in
    let memory = (rw c.decode.ensures at c.step.ensures.memory) ∙ same.1 in
    record {
      answer = c.number_of-2.ensures ∙ (rw c.decode.ensures at c.step.ensures.answer) ∙ same.0;
      memory = memory;
      sound = c.requires.0 ∙ sound_after _ _ (λ i. search rules) (λ i. search rules) ∙ ap sound_desk (sym memory);
      sums = λ _. c.step.ensures.sums;
    }
