-- A day, computed: the answers to a list of events, and what is kept at its end.
use Rattle.std.specs.Prelude.{◌&&◌, ◌∷◌}
use Rattle.integers.specs.Basics.{ℕ, Bool, true, List, [], ltb}
use Rattle.book.specs.declared.Event.{Event}
use Rattle.book.specs.Decoding.{decode}
use Rattle.book.specs.States.{State}
use Rattle.book.specs.Table.{answer}
use Rattle.book.specs.EventLists.{keep}

-- each event worked where it is accepted
abbrev pub answers_to : State → List Event → List ℕ
answers_to k [] = []
answers_to k (e ∷ es) = let n = answer k e in n ∷ answers_to (keep k e n) es

abbrev pub end_of : State → List Event → State
end_of k [] = k
end_of k (e ∷ es) = end_of (keep k e (answer k e)) es

-- ---- a day in bytes
abbrev pub decoded : List (List ℕ) → List Event
decoded [] = []
decoded (e ∷ es) = decode e ∷ decoded es

abbrev pub are_bytes : List ℕ → Bool
are_bytes [] = true
are_bytes (b ∷ bs) = ltb b 256 && are_bytes bs

abbrev pub all_bytes : List (List ℕ) → Bool
all_bytes [] = true
all_bytes (e ∷ es) = are_bytes e && all_bytes es
