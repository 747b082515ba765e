-- Where the quick test does not tell, the answer is, word by word, that of the test of the number read.
use Rattle.std.specs.Prelude.{◌/◌}
use Rattle.std.specs.Int.{w64, from_le_bytes}
use Rattle.std.proofs.Common.{rules, tests}
use Rattle.integers.specs.Basics.{length}
use Rattle.words.specs.Words.{word_at}
use Rattle.ledger.specs.Roster.{Numbered}
use Rattle.memory_soundness.proofs.EachRecord.{decides_elements}
use Rattle.memory_soundness.proofs.RowChunks.{word_in_chunk}
use Rattle.memory_soundness.proofs.roster.all_named.Goals as goal

pub returns-else-all_numbered : goal.returns-else-all_numbered
returns-else-all_numbered c =
    let table = c.args.table.now in
    let numbers = c.as_chunks.result.0.now in
    let n = length table / 8 in
    decides_elements (Numbered c.args.most) (from_le_bytes w64) (word_at table) n numbers c.as_chunks.ensures.front_len
    (λ p h. word_in_chunk n table numbers p h c.as_chunks.ensures.front) c.all.ensures.ran (cc) (λ x b q k. search (rules, tests))
