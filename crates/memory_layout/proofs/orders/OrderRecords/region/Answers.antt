-- The part has room for 256 records.
use Rattle.integers.specs.Basics.{refl, ◌∙◌}
use Rattle.memory_layout.proofs.OpenRecords.{region_cut}
use Rattle.memory_layout.proofs.orders.OrderRecords.region.Goals as goal

pub returns-clause-records : goal.returns-clause-records
returns-clause-records c =
    c.as_chunks.ensures.front
    ∙ region_cut c.args.self.now _ _ (c.words.ensures ∙ rw (c.first_record.ensures, c.self.view_is))
    (rw c.self.view_is at c.self.invariant) refl
