-- What is left to answer from memory, room and bytes as they stand is what the whole run answers (`Running`). Question 5 is asked once,
-- since each turn leaves `sound` and the sums true.
use Rattle.std.specs.Prelude.{◌+◌, ◌≡◌}
use Rattle.std.specs.Slice.Iter.{chunks_rest, chunks_size}
use Rattle.std.specs.Iterator.Adapters.{take_source, take_count}
use Rattle.integers.specs.Basics.{true, length}
use Rattle.memory_layout.specs.View.{open_orders}
use Rattle.memory_soundness.specs.Soundness.{sound_desk}
use Rattle.memory_soundness.specs.Cells.{Sums}
use Rattle.desk.proofs.RunLoop.{Running}
use Rattle.desk.proofs.run.desk_run.Given as goal

abbrev pub invariant-loop-event : goal.invariant-loop-event
invariant-loop-event l = record {
  chunk : chunks_size (take_source l.event-iterator) ≡ 48;
  room : l.count + take_count l.event-iterator ≡ length l.answers;
  sound : l.sound ≡ sound_desk l.m;
  sums : l.sound ≡ true → Sums l.cells (open_orders l.m);
  running : Running l.initial.m l.events l.initial.answers l.m l.answers (chunks_rest (take_source l.event-iterator)) l.count;
}
