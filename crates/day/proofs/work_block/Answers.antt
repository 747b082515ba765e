-- A run answers no more events than there is room for.
use Rattle.std.proofs.Common.{ℕ, ◌≤◌, ◌≡◌, List, length, take, arith, length-take}
use Rattle.desk.specs.Run.{cut}
use Rattle.day.proofs.work_block.Goals as goal

few : {A : Type 0} (room n : ℕ) (events : List A) → n ≡ length (take room events) → n ≤ room
few room n events e = omega (arith, length-take room events)

pub slice_bounds-answers-end : goal.slice_bounds-answers-end
slice_bounds-answers-end g c = let h = few 1024 _ (cut c.args.events.now) c.desk_run-count.ensures.count in omega arith

pub slice_bounds-answer_lines-end : goal.slice_bounds-answer_lines-end
slice_bounds-answer_lines-end g c =
    let h = few 1024 _ (cut c.args.events.now) c.desk_run-count.ensures.count in
    omega (arith, length-take c.desk_run-count.result c.desk_run-count.new.answers)
