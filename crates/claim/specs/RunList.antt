-- Demand 3's list is the list that a run works.
use Rattle.std.specs.Prelude.{◌≤◌, ◌≡◌, ◌∷◌, ◌++◌}
use Rattle.integers.specs.Basics.{ℕ, false, List, [], map, length, replicate}
use Rattle.book.specs.EventLists.{RawEvent, memory_after}
use Rattle.memory_soundness.specs.Soundness.{sound_desk}
use Rattle.desk.specs.Step.{answer_to}
use Rattle.desk.specs.Days.{answers_over, memory_over}
use Rattle.desk.specs.Run.{events_for}
use Rattle.claim.specs.GateDemands.{gate}

-- 48 bytes each; the last may be shorter, but not empty
abbrev pub Whole : List RawEvent → Type 0
Whole [] = Unit
Whole (e ∷ []) = (1 ≤ length e.bytes) × (length e.bytes ≤ 48)
Whole (e ∷ f ∷ es) = (length e.bytes ≡ 48) × Whole (f ∷ es)

abbrev pub bytes_of_each : List RawEvent → List (List ℕ)
bytes_of_each = map (λ e. e.bytes)

-- one after the other
abbrev pub concatenated : List RawEvent → List ℕ
concatenated [] = []
concatenated (e ∷ es) = e.bytes ++ concatenated es

pub record RunIsTheList : Type 0 where
  -- with room for their answers, all are worked
  pub worked : (es : List RawEvent) (room : List ℕ) → Whole es → length es ≤ length room
      → events_for (concatenated es) room ≡ bytes_of_each es
  pub memory : (m : List ℕ) (es : List RawEvent) → memory_over m (bytes_of_each es) ≡ memory_after gate m es
  -- N's answer stands behind the list's
  pub next :
      (m : List ℕ) (es : List RawEvent) (n : RawEvent)
      → answers_over m (bytes_of_each (es ++ (n ∷ [])))
      ≡ answers_over m (bytes_of_each es) ++ (answer_to (memory_after gate m es) n.bytes ∷ [])

-- ---- a short or unsound memory: every event is answered 5, and nothing is written
abbrev pub UnsoundRun : Type 0
UnsoundRun =
    (m : List ℕ) (es : List (List ℕ))
    → sound_desk m ≡ false
    → (answers_over m es ≡ replicate (length es) 5) × (memory_over m es ≡ m)
