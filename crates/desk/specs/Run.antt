-- Many events in one call: the bytes cut into events, and what the room for answers takes of them.
use Rattle.std.specs.Prelude.{◌∷◌, ◌++◌}
use Rattle.integers.specs.Basics.{ℕ, zero, suc, List, [], length, take, drop}
use Rattle.desk.specs.Days.{answers_over}

-- at most n events: the first 48 bytes, then those of the rest; the last may be short
unfoldable pub cut_in : ℕ → List ℕ → List (List ℕ)
cut_in zero s = []
cut_in (suc n) [] = []
cut_in (suc n) (b ∷ s) = take 48 (b ∷ s) ∷ cut_in n (drop 48 (b ∷ s))

-- all of them: they are no more than the bytes
unfoldable pub cut : List ℕ → List (List ℕ)
cut s = cut_in (length s) s

-- the events that a run works: as many as there is room for answers
abbrev pub events_for : (events room : List ℕ) → List (List ℕ)
events_for events room = take (length room) (cut events)

-- the room for answers after a run at memory m: its first bytes are the answers, and the rest is as it was
abbrev pub answered : (m events room : List ℕ) → List ℕ
answered m events room =
    let answers = answers_over m (events_for events room) in
    answers ++ drop (length answers) room
