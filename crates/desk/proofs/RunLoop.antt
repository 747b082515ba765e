-- A run's loop: what is left to answer, from the memory and the room as they stand, is what the whole run answers.
use Rattle.std.specs.Prelude.{◌+◌, ◌-◌, ◌≤◌, ◌<◌, ◌≡◌, ◌∷◌, ◌++◌, min}
use Rattle.integers.specs.Basics.{ℕ, suc, refl, ◌∙◌, ap, List, [], length, set, take, length-set, arith}
use native.Mathlib.Numerals.{add-one}
use native.Mathlib.Decide.{dec_le}
use lib.ListN.{length-take}
use lib.Seq.{take-nil, sets, sets-eq}
use Rattle.desk.specs.Step.{answer_to, after_event}
use Rattle.desk.specs.Days.{answers_over, memory_over}
use Rattle.desk.specs.Run.{cut, events_for, answered}
use Rattle.desk.proofs.Cutting.{cut_none, cut_chunk}

pub length_answers : (m : List ℕ) (es : List (List ℕ)) → length (answers_over m es) ≡ length es
unfolding answers_over
length_answers m [] = refl
length_answers m (e ∷ es) = ap suc (length_answers (after_event m e) es)

-- the events of the bytes that are left, as many as there is room for behind the first `count` answers
abbrev left : (rest room : List ℕ) (count : ℕ) → List (List ℕ)
left rest room count = take (length room - count) (cut rest)

-- a run that began at the memory `first`, with the bytes `rest` left
pub record Running (first events room m answers rest : List ℕ) (count : ℕ) : Type 0 where
  pub few : count ≤ length room
  pub size : length answers ≡ length room
  pub counted : count + length (left rest room count) ≡ length (events_for events room)
  pub memory : memory_over m (left rest room count) ≡ memory_over first (events_for events room)
  pub written : sets answers count (answers_over m (left rest room count)) ≡ sets room 0 (answers_over first (events_for events room))

-- what a run returns and leaves
pub record Ran (first events room m answers : List ℕ) (count : ℕ) : Type 0 where
  pub returned : count ≡ length (events_for events room)
  pub memory : m ≡ memory_over first (events_for events room)
  pub written : answers ≡ answered first events room

module _ (first events room : List ℕ) where
  pub begins : Running first events room first room events 0
  begins =
      let all : length room - 0 ≡ length room = omega arith in
      record { few = omega arith; size = refl; counted = rw all (omega arith); memory = rw all; written = rw all }

  module _ (m answers rest : List ℕ) (count : ℕ) (r : Running first events room m answers rest count) where
    -- one event more: the next chunk e, before the bytes `behind`
    pub turns : (e behind after_e : List ℕ) (a : ℕ) → count < length answers → 0 < length rest → rest ≡ e ++ behind
        → length e ≡ min 48 (length rest) → a ≡ answer_to m e → after_e ≡ after_event m e
        → Running first events room after_e (set answers count a) behind (count + 1)
    unfolding memory_over answers_over
    turns e behind after_e a space more parts size told worked =
        let one : length room - count ≡ suc (length room - (count + 1)) = omega (arith, r.size) in
        let next : left rest room count ≡ e ∷ left behind room (count + 1) = rw (cut_chunk rest e behind more parts size, one) refl in
        record {
          few = omega (arith, r.size);
          size = length-set answers count a ∙ r.size;
          counted = omega (arith, r.counted, ap length next);
          memory = rw worked (rw next at r.memory);
          written = rw (worked, told, add-one) (rw (next, add-one) at r.written);
        }

    -- no event is left, or no room
    ends : left rest room count ≡ [] → Ran first events room m answers count
    unfolding memory_over answers_over
    ends none_left =
        let all = answers_over first (events_for events room) in
        let few : 0 + length all ≤ length room =
        omega (arith, length_answers first (events_for events room), length-take (length room) (cut events)) in
        let size : 0 + length all ≡ length all = omega arith in
        record {
          returned = omega (arith, r.counted, ap length none_left);
          memory = rw none_left at r.memory;
          written = (rw none_left at r.written) ∙ sets-eq all room 0 few ∙ rw size;
        }

    pub finishes : (count < length room → length rest ≡ 0) → Ran first events room m answers count
    finishes used = ends (by (dec_le (length room) count) rest refl)
      where
        by : Dec (length room ≤ count) → (s : List ℕ) → rest ≡ s → left s room count ≡ []
        by (yes full) s same = let none : length room - count ≡ 0 = omega arith in rw none
        by (no more) [] same = rw cut_none (take-nil (length room - count))
        by (no more) (b ∷ s) same = absurd (omega (arith, used (omega (arith, more)), ap length same))
