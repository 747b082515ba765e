-- Each number is at most the fold with the bits of all (`joined_each`), and that in chunk p is number p of the row.
use Rattle.std.specs.Prelude.{◌/◌}
use Rattle.std.specs.Int.{w32, from_le_bytes}
use Rattle.std.proofs.Common.{rules}
use Rattle.std.proofs.lemmas.Iterator.{YieldsList-from_slice}
use Rattle.std.proofs.lemmas.Iterator.Consumers.{fold_from_yields_List}
use Rattle.integers.specs.Basics.{[], length, arith}
use Rattle.memory_soundness.proofs.Joining.{joined_each}
use Rattle.memory_soundness.proofs.RowChunks.{figure_in_chunk}
use Rattle.memory_soundness.proofs.bits.bits_of_all.Goals as goal

pub returns : goal.returns
returns c p inside =
    let chunks = c.as_chunks.result.0.now in
    rw (figure_in_chunk (length c.args.row.now / 4) c.args.row.now chunks p inside c.as_chunks.ensures.front) at
    (joined_each (from_le_bytes w32) 0 c.fold.result chunks []
    (fold_from_yields_List _ _ _ _ c.fold.ensures.ran (YieldsList-from_slice chunks cc) (λ a x b q k. search rules)) p
    (omega (arith, c.as_chunks.ensures.front_len)))
