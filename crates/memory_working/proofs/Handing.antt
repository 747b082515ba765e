-- An event taken apart and handed on: each kind's function gets the event by another name.
use Rattle.std.specs.Prelude.{◌≡◌}
use Rattle.integers.specs.Basics.{ℕ, List}
use Rattle.book.specs.declared.Event.{Event}
use Rattle.memory_working.specs.Working.{AcceptedEvent, Ready}

-- an event that names no order
pub accepted_as : {m : List ℕ} {e e' : Event} {p w : ℕ} → e ≡ e' → Ready m e p w → AcceptedEvent m e'
accepted_as {m} {e} same ready =
    let was : AcceptedEvent m e = record { held = ready.held; accepted = ready.accepted } in
    rw same at was

pub ready_as : {m : List ℕ} {e e' : Event} {p w : ℕ} → e ≡ e' → Ready m e p w → Ready m e' p w
ready_as same ready = rw same at ready
