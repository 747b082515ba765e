-- What follows from the demands alone, of any memory and any bytes: each of their clauses is used.
use Rattle.std.specs.Prelude.{◌≤◌, ◌<◌, ◌≡◌, ◌≢◌, ◌||◌, ◌∷◌, ◌++◌}
use Rattle.integers.specs.Basics.{ℕ, Bool, true, false, List, [], ListMemᴰ, ℤ, eqb, length, get_or}
use Rattle.words.specs.Bytes.{Bytes}
use Rattle.limits.specs.Questions.{first_no}
use Rattle.book.specs.declared.Event.TheVariants.{Junk}
use Rattle.book.specs.Decoding.{decode}
use Rattle.book.specs.Table.{q}
use Rattle.book.specs.EventLists.{RawEvent, memory_after}
use Rattle.memory_layout.specs.View.{roster_of}
use Rattle.memory_layout.specs.Rosters.{long_enough}
use Rattle.memory_soundness.specs.Soundness.{sound_desk}
use Rattle.memory_opening.specs.Questions.{opening_questions, opening_answer}
use Rattle.memory_opening.specs.Opening.{after_opening}
use Rattle.memory_reading.specs.Reading.{reading_questions, instrument_answer, group_answer, instrument_report, group_report, reported}
use Rattle.desk.specs.Step.{event_questions, answer_to, after_event}
use Rattle.desk.specs.Days.{answers_over, memory_over}
use Rattle.claim.specs.GateDemands.{gate}
use Rattle.claim.specs.Claim.{asked_first, asked_last}

-- ---- demand 1
-- is n one of the list?
abbrev pub is_one_of : List ℕ → ℕ → Bool
is_one_of [] n = false
is_one_of (k ∷ ks) n = eqb n k || is_one_of ks n

pub record NumbersAndBytes : Type 0 where
  -- no number but those of the list
  pub roster : (m s : List ℕ) → opening_answer m s ≤ 4
  pub event : (m e : List ℕ) → is_one_of (0 ∷ (asked_first ++ asked_last)) (answer_to m e) ≡ true
  -- so none of an opening's, and not 25
  pub no_other : (is_one_of (0 ∷ (asked_first ++ asked_last)) 4 ≡ false) × (is_one_of (0 ∷ (asked_first ++ asked_last)) 25 ≡ false)
  -- every byte, after any roster and any events
  pub refused_roster : (m s : List ℕ) (k : ℕ) → opening_answer m s ≢ 0 → get_or (after_opening m s) k 0 ≡ get_or m k 0
  pub refused_event : (m e : List ℕ) (k : ℕ) → answer_to m e ≢ 0 → get_or (after_event m e) k 0 ≡ get_or m k 0
  pub behind :
      (m s : List ℕ) (events : List RawEvent) (k : ℕ)
      → 65536 ≤ k
      → get_or (memory_after gate (after_opening m s) events) k 0 ≡ get_or m k 0

-- ---- demand 2
-- the answers are determined: each is its table's first question that is answered no, or 0
pub record Determined : Type 0 where
  pub roster : (m s : List ℕ) → opening_answer m s ≡ first_no (opening_questions m s)
  pub event : (m e : List ℕ) → answer_to m e ≡ first_no (event_questions m e)
  pub instrument : (m : List ℕ) (a i : ℕ) → instrument_answer m a i ≡ first_no (reading_questions m (roster_of m).instruments a i)
  pub group : (m : List ℕ) (a g : ℕ) → group_answer m a g ≡ first_no (reading_questions m (roster_of m).groups a g)

-- what a refusal tells: its question is answered no
pub record Refusals : Type 0 where
  pub roster : (m s : List ℕ) → opening_answer m s ≢ 0 → ListMemᴰ (q (opening_answer m s) false) (opening_questions m s)
  pub event : (m e : List ℕ) → answer_to m e ≢ 0 → ListMemᴰ (q (answer_to m e) false) (event_questions m e)
  pub instrument :
      (m : List ℕ) (a i : ℕ)
      → instrument_answer m a i ≢ 0
      → ListMemᴰ (q (instrument_answer m a i) false) (reading_questions m (roster_of m).instruments a i)
  pub group :
      (m : List ℕ) (a g : ℕ)
      → group_answer m a g ≢ 0
      → ListMemᴰ (q (group_answer m a g) false) (reading_questions m (roster_of m).groups a g)

-- what an acceptance tells: the first question is answered yes
pub record Acceptances : Type 0 where
  pub roster : (m s : List ℕ) → opening_answer m s ≡ 0 → long_enough m ≡ true
  pub event : (m e : List ℕ) → answer_to m e ≡ 0 → sound_desk m ≡ true
  pub instrument : (m : List ℕ) (a i : ℕ) → instrument_answer m a i ≡ 0 → sound_desk m ≡ true
  pub group : (m : List ℕ) (a g : ℕ) → group_answer m a g ≡ 0 → sound_desk m ≡ true

-- 1 of a memory that is too short, 5 of one that holds no sound desk, 6 of junk; and memory and output are as they were
pub record Examples : Type 0 where
  pub short : (m s : List ℕ) → length m < 65536 → (opening_answer m s ≡ 1) × (after_opening m s ≡ m)
  pub unsound : (m e : List ℕ) → sound_desk m ≡ false → (answer_to m e ≡ 5) × (after_event m e ≡ m)
  pub junk : (m e : List ℕ) → sound_desk m ≡ true → decode e ≡ Junk → (answer_to m e ≡ 6) × (after_event m e ≡ m)
  pub run : (m e f : List ℕ) → sound_desk m ≡ false → (answers_over m (e ∷ f ∷ []) ≡ 5 ∷ 5 ∷ []) × (memory_over m (e ∷ f ∷ []) ≡ m)
  pub instrument :
      (m : List ℕ) (a i : ℕ) (before : List ℤ)
      → sound_desk m ≡ false
      → (instrument_answer m a i ≡ 5) × (reported (instrument_answer m a i) (instrument_report m a i) before ≡ before)
  pub group :
      (m : List ℕ) (a g : ℕ) (before : List ℤ)
      → sound_desk m ≡ false
      → (group_answer m a g ≡ 5) × (reported (group_answer m a g) (group_report m a g) before ≡ before)

-- ---- demand 3: from an accepted opening every memory holds a sound desk
abbrev pub StaysSound : Type 0
StaysSound =
    (m s : List ℕ) → Bytes m → opening_answer m s ≡ 0 → (events : List RawEvent)
    → sound_desk (memory_after gate (after_opening m s) events) ≡ true
