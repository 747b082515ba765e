-- The questions that are left of an event: the table's own, behind one whose number is given.
use Rattle.std.specs.Prelude.{◌++◌}
use Rattle.integers.specs.Basics.{ℕ, List}
use Rattle.limits.specs.Questions.{Question, behind}
use Rattle.book.specs.declared.Event.{Event}
use Rattle.book.specs.Table.{questions_before, limit_questions}
use Rattle.memory_layout.specs.View.{view}

-- of an event at a desk's memory, once question n and those before it are answered yes
unfoldable pub left_after : ℕ → List ℕ → Event → List Question
left_after n m e = behind n (questions_before (view m) e ++ limit_questions (view m) e)
