-- Word by word, the answer is that of `word_in_range`.
use Rattle.std.specs.Prelude.{◌/◌, ◌≡◌}
use Rattle.std.proofs.Common.{rules, tests}
use Rattle.integers.specs.Basics.{true, length}
use Rattle.limits.specs.InBytes.{group_line_at}
use Rattle.memory_soundness.specs.Soundness.{group_line_in_range}
use Rattle.memory_soundness.proofs.EachRecord.{decides_elements}
use Rattle.memory_soundness.proofs.RowChunks.{group_line_in_chunk}
use Rattle.memory_soundness.proofs.lines.group_row_in_range.Goals as goal

pub returns : goal.returns
returns c =
    let row = c.args.row.now in
    let lines = c.as_chunks.result.0.now in
    let n = length row / 8 in
    decides_elements (λ l. group_line_in_range c.args.largest l ≡ true) (λ line. group_line_at line 0) (group_line_at row) n lines
    c.as_chunks.ensures.front_len (λ p h. group_line_in_chunk n row lines p h c.as_chunks.ensures.front) c.all.ensures.ran (cc)
    (λ x b q k. search (rules, tests))
