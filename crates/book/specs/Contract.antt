-- What demand 3 asks of a desk: that its answers are the table's, and that its memory shows what is kept.
use Rattle.std.specs.Prelude.{◌≡◌, ◌≢◌}
use Rattle.book.specs.States.{State, work}
use Rattle.book.specs.Table.{answer}
use Rattle.book.specs.Sound.{Sound}
use Rattle.book.specs.EventLists.{RawEvent, as_event, Desk}

pub record Contract (D : Desk) : Type 1 where
  -- the memory holds the state
  pub Shows : D.Memory → State → Type 0
  -- of a sound state that it shows, the answer is the table's
  pub judged : (m : D.Memory) (k : State) (e : RawEvent) → Shows m k → Sound k → D.answer_to m e ≡ answer k (as_event e)
  -- an accepted event is worked
  pub worked :
      (m : D.Memory) (k : State) (e : RawEvent)
      → Shows m k
      → Sound k
      → D.answer_to m e ≡ 0
      → Shows (D.next m e) (work k (as_event e))
  -- a refused event leaves the memory as it is
  pub refused : (m : D.Memory) (e : RawEvent) → D.answer_to m e ≢ 0 → D.next m e ≡ m
