-- An event leaves a desk as sound as it was, so question 5 has one answer along a run.
use Rattle.std.specs.Prelude.{◌≡◌}
use Rattle.integers.specs.Basics.{ℕ, refl, ◌∙◌, sym, Bool, true, false, List, ℕ_discrete}
use Rattle.words.specs.Bytes.{Bytes}
use Rattle.book.specs.Decoding.{decode}
use Rattle.book.proofs.Decoded.{decoded_id}
use Rattle.memory_soundness.specs.Soundness.{sound_desk}
use Rattle.memory_soundness.specs.SoundMemory.{SoundMemory}
use Rattle.memory_soundness.proofs.SoundDesk.{sound_out, sound_in}
use Rattle.memory_working.proofs.Small.{decoded_sized}
use Rattle.memory_working.proofs.SoundWorked.{sound_worked}
use Rattle.desk.specs.Step.{answer_to, after_event}
use Rattle.desk.proofs.Events.{after_refused, after_accepted, answer_sound}
use Rattle.desk.proofs.Stepped.{unsound_event}

module _ (m e : List ℕ) (bytes : Bytes m) (event_bytes_lem : Bytes e) where
  held_after : SoundMemory m → SoundMemory (after_event m e)
  held_after held = by (ℕ_discrete (answer_to m e) 0)
    where
      by : Dec (answer_to m e ≡ 0) → SoundMemory (after_event m e)
      by (yes zero) =
          rw (after_accepted m e zero)
          (sound_worked m bytes held (decode e) (decoded_sized e event_bytes_lem) (decoded_id e) (sym (answer_sound m e held) ∙ zero))
      by (no refused) = rw (after_refused m e refused) held

  pub sound_after : sound_desk m ≡ sound_desk (after_event m e)
  sound_after = by (sound_desk m) refl
    where
      by : (t : Bool) → sound_desk m ≡ t → sound_desk m ≡ sound_desk (after_event m e)
      by true h = h ∙ sym (sound_in (after_event m e) (held_after (sound_out m h)))
      by false h = rw (← (unsound_event m e h).1)
