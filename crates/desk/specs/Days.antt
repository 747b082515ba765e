-- A day at a desk: what it answers to a list of events one after the other, and the memory at the end.
use Rattle.std.specs.Prelude.{◌∷◌}
use Rattle.integers.specs.Basics.{ℕ, List, []}
use Rattle.desk.specs.Step.{answer_to, after_event}

unfoldable pub answers_over : List ℕ → List (List ℕ) → List ℕ
answers_over m [] = []
answers_over m (e ∷ es) = answer_to m e ∷ answers_over (after_event m e) es

unfoldable pub memory_over : List ℕ → List (List ℕ) → List ℕ
memory_over m [] = m
memory_over m (e ∷ es) = memory_over (after_event m e) es
