-- What is left to answer from memory, room and bytes as they stand is what the whole run answers (`Running`).
use Rattle.integers.specs.Basics.{ℕ, refl, ◌∙◌, length-set, arith}
use Rattle.memory_soundness.proofs.Gathering.{empty_cells}
use Rattle.desk.proofs.RunLoop.{turns, finishes}
use Rattle.desk.proofs.run.desk_run.Goals as goal

pub is_sound_with_sums-sound-requires : goal.is_sound_with_sums-sound-requires
is_sound_with_sums-sound-requires c = empty_cells 1089 refl

pub loop-event-preserved : goal.loop-event-preserved
loop-event-preserved c =
    let steps = c.in-Some.ensures.steps in
    let chunk = steps.0.1 in
    let was = c.loop-event.invariant in
    let answer = c.answer_next.ensures in
    record {
      chunk = steps.0.0 ∙ was.chunk;
      room = omega (arith, steps.1, length-set {A = ℕ});
      sound = answer.sound;
      sums = answer.sums;
      running =
          turns _ _ _ _ _ _ _ was.running _ _ _ _ (omega (arith, steps.1)) chunk.2 chunk.0 (rw was.chunk at chunk.1) answer.answer
          answer.memory;
    }

pub returns : goal.returns
returns c =
    let ran = finishes _ _ _ _ _ _ _ c.loop-event.invariant.running (λ space. (c.in-None.ensures.steps (omega arith)).1.0) in
    record { count = ran.returned; memory = ran.memory; answers = ran.written }
