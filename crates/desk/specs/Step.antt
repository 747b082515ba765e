-- An event at a desk: the answer and the memory that it leaves, over any bytes.
use Rattle.integers.specs.Basics.{ℕ, cond, List, eqb}
use Rattle.limits.specs.Questions.{Question, first_no}
use Rattle.book.specs.declared.Event.{Event}
use Rattle.book.specs.Decoding.{decode}
use Rattle.book.specs.Table.{questions}
use Rattle.memory_layout.specs.View.{view}
use Rattle.memory_layout.specs.Judged.{judged}
use Rattle.memory_soundness.specs.Soundness.{sound_desk}
use Rattle.memory_working.specs.Working.{worked}

-- questions 5 to 24 of the event that the bytes e say, asked of memory m
unfoldable pub event_questions : List ℕ → List ℕ → List Question
event_questions m e = questions (sound_desk m) (view m) (decode e)

-- the number of the first question that is answered no, or 0
unfoldable pub answer_to : List ℕ → List ℕ → ℕ
answer_to m e = first_no (event_questions m e)

-- an accepted event is worked; a refused one leaves the memory as it is
unfoldable pub after_event : List ℕ → List ℕ → List ℕ
after_event m e = cond (eqb (answer_to m e) 0) (worked m (decode e)) m

-- on a sound desk
unfoldable pub stepped : List ℕ → Event → List ℕ
stepped m e = cond (eqb (judged m e) 0) (worked m e) m
