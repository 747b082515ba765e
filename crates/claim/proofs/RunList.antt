-- Demand 3's list is the list that a run works; a run at an unsound desk answers 5 and writes nothing.
use Rattle.std.specs.Prelude.{◌≤◌, ◌≡◌, ◌∷◌, ◌++◌}
use Rattle.integers.specs.Basics.{ℕ, refl, ◌∙◌, ap, List, [], length, arith}
use mathlib.Core.List.{append-nil}
use lib.ListN.{length-append, length-map, drop_of_length-le}
use lib.Seq.{take_at, drop_at, take_all}
use Rattle.book.specs.EventLists.{RawEvent, memory_after}
use Rattle.desk.specs.Step.{answer_to, after_event}
use Rattle.desk.specs.Days.{answers_over, memory_over}
use Rattle.claim.specs.GateDemands.{gate}
use Rattle.desk.proofs.Stepped.{unsound_event}
use Rattle.desk.specs.Run.{cut, events_for}
use Rattle.claim.specs.RunList.{Whole, bytes_of_each, concatenated, RunIsTheList, UnsoundRun}
use Rattle.desk.proofs.Cutting.{cut_none, cut_more}

-- ---- the list
one_more : (e s : List ℕ) → length e ≡ 48 → cut (e ++ s) ≡ e ∷ cut s
one_more e s h =
    cut_more (e ++ s) (omega (arith, length-append e s))
    ∙ rw (take_at e s 48 h, drop_at e s 48 h)

last : (e : List ℕ) → 1 ≤ length e → length e ≤ 48 → cut e ≡ e ∷ []
last e some_bytes short =
    cut_more e some_bytes ∙ rw (take_all 48 e short, drop_of_length-le e short, cut_none)

cut_joined : (es : List RawEvent) → Whole es → cut (concatenated es) ≡ bytes_of_each es
cut_joined [] h = cut_none
cut_joined (e ∷ []) h = rw (append-nil e.bytes) (last e.bytes h.0 h.1)
cut_joined (e ∷ f ∷ es) h =
    one_more e.bytes (concatenated (f ∷ es)) h.0 ∙ ap (λ l. e.bytes ∷ l) (cut_joined (f ∷ es) h.1)

all_worked_lem : (es : List RawEvent) (room : List ℕ) → Whole es → length es ≤ length room
    → events_for (concatenated es) room ≡ bytes_of_each es
all_worked_lem es room h space =
    rw (cut_joined es h)
    (take_all (length room) (bytes_of_each es) (omega (arith, length-map es (λ e. e.bytes))))

memory_along : (m : List ℕ) (es : List RawEvent) → memory_over m (bytes_of_each es) ≡ memory_after gate m es
unfolding memory_over memory_after
memory_along m [] = refl
memory_along m (e ∷ es) = memory_along (after_event m e.bytes) es

answer_behind : (m : List ℕ) (es : List RawEvent) (n : RawEvent)
    → answers_over m (bytes_of_each (es ++ (n ∷ []))) ≡ answers_over m (bytes_of_each es)
    ++ (answer_to (memory_after gate m es) n.bytes ∷ [])
unfolding answers_over memory_after
answer_behind m [] n = refl
answer_behind m (e ∷ es) n =
    ap (λ l. answer_to m e.bytes ∷ l) (answer_behind (after_event m e.bytes) es n)

pub run_is_the_list : RunIsTheList
run_is_the_list = record { worked = all_worked_lem; memory = memory_along; next = answer_behind }

-- ---- an unsound desk
pub unsound_run : UnsoundRun
unfolding answers_over memory_over
unsound_run m [] h = (refl, refl)
unsound_run m (e ∷ es) h =
    let same = unsound_event m e h in
    let rest = unsound_run m es h in
    (rw (← same.1, ← same.0, rest.0), rw (← same.1) rest.1)
