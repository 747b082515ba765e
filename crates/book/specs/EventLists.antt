-- A list of events at a desk, and what is kept from the events and their answers alone.
use Rattle.std.specs.Prelude.{◌∷◌}
use Rattle.integers.specs.Basics.{ℕ, cond, List, [], eqb}
use Rattle.words.specs.Bytes.{Bytes}
use Rattle.book.specs.declared.Event.{Event}
use Rattle.book.specs.Decoding.{decode}
use Rattle.book.specs.States.{State, work}

-- an event in the list is any bytes
pub record RawEvent : Type 0 where
  pub bytes : List ℕ
  pub are : Bytes bytes

-- the event that the bytes say
abbrev pub as_event : RawEvent → Event
as_event e = decode e.bytes

-- a desk: the answer to an event, and the memory that the event leaves
pub record Desk : Type 1 where
  pub Memory : Type 0
  pub answer_to : Memory → RawEvent → ℕ
  pub next : Memory → RawEvent → Memory

-- a refused event leaves what is kept as it is; an accepted one, answered 0, is worked
unfoldable pub keep : State → Event → ℕ → State
keep k e n = cond (eqb n 0) (work k e) k

-- each event gets the memory as the one before left it
unfoldable pub memory_after : (D : Desk) → D.Memory → List RawEvent → D.Memory
memory_after D m [] = m
memory_after D m (e ∷ es) = memory_after D (D.next m e) es

unfoldable pub state_after : (D : Desk) → D.Memory → State → List RawEvent → State
state_after D m k [] = k
state_after D m k (e ∷ es) = state_after D (D.next m e) (keep k (as_event e) (D.answer_to m e)) es
