-- Where the quick test does not tell, the answer is, weight by weight, that of the test of the weight read.
use Rattle.std.specs.Prelude.{◌/◌, ◌≤◌}
use Rattle.std.specs.Int.{w64, from_le_bytes}
use Rattle.std.proofs.Common.{rules, tests, nat_abs}
use Rattle.integers.specs.Basics.{length, to_z}
use Rattle.words.specs.Words.{signed_at}
use Rattle.memory_soundness.proofs.EachRecord.{decides_elements}
use Rattle.memory_soundness.proofs.RowChunks.{weight_in_chunk}
use Rattle.memory_soundness.proofs.roster.weights_fit.Goals as goal

pub returns-else-all_small : goal.returns-else-all_small
returns-else-all_small c =
    let table = c.args.table.now in
    let weights = c.as_chunks.result.0.now in
    let n = length table / 8 in
    decides_elements (λ z. nat_abs z ≤ 1000000) (λ weight. to_z w64 (from_le_bytes w64 weight)) (signed_at table) n weights
    c.as_chunks.ensures.front_len
    (λ p h. weight_in_chunk n table weights p h c.as_chunks.ensures.front (λ i. (c.type_inv.table i).fits)) c.all.ensures.ran (cc)
    (λ x b q k. search (rules, tests))
