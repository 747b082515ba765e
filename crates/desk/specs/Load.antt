-- A load of limits at a desk: the answer and the memory that it leaves, over any bytes.
use Rattle.integers.specs.Basics.{ℕ, cond, List, [], Option, None, Some, eqb}
use Rattle.limits.specs.Questions.{first_no}
use Rattle.book.specs.LimitBytes.{limit_bytes}
use Rattle.grammar.specs.Grammar.{Value}
use Rattle.grammar.specs.Document.{file_of}
use Rattle.limit_file.specs.Layout.{request, limit_file}
use Rattle.memory_layout.specs.View.{view}
use Rattle.memory_soundness.specs.Soundness.{sound_desk}
use Rattle.memory_loading.specs.Entries.{entries}
use Rattle.memory_loading.specs.Loading.{each_limited, load_questions}
use Rattle.desk.specs.Days.{memory_over}

-- the number of the first question that is answered no, or 0
unfoldable pub load_answer : List ℕ → List ℕ → ℕ
load_answer m s = first_no (load_questions (sound_desk m) (view m) s)

-- the LIMIT events that a file yields, 48 bytes each, in its order
abbrev limits_of : Option (Value request) → List (List ℕ)
limits_of None = []
limits_of (Some v) = each_limited limit_bytes (entries v)

unfoldable pub load_limits : List ℕ → List (List ℕ)
load_limits s = limits_of (file_of limit_file s)

-- an accepted load leaves what its LIMIT events leave one after the other; a refused one leaves the memory as it is
unfoldable pub after_load : List ℕ → List ℕ → List ℕ
after_load m s = cond (eqb (load_answer m s) 0) (memory_over m (load_limits s)) m
