-- The memory that an accepted opening leaves: that of a desk which has just begun with the roster of the bytes.
use Rattle.integers.specs.Basics.{ℕ, cond, List, eqb}
use Rattle.memory_layout.specs.Opening.{begun_memory}
use Rattle.memory_opening.specs.Questions.{roster_from, opening_answer}

unfoldable pub opened : List ℕ → List ℕ → List ℕ
opened m s = begun_memory m (roster_from s)

-- an accepted opening leaves the opened desk, a refusal the memory as it was
unfoldable pub after_opening : List ℕ → List ℕ → List ℕ
after_opening m s = cond (eqb (opening_answer m s) 0) (opened m s) m
