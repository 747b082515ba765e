-- The gap is closed, then first and count are written: by `left_by` that stores the list without place p, from the new first record.
use Rattle.integers.specs.Basics.{rules}
use Rattle.memory_layout.proofs.ListChanges.{left_by}
use Rattle.memory_layout.proofs.orders.remove_order.Goals as goal

pub returns : goal.returns
returns c =
    rw (← c.close_gap-first.ensures.first)
    (left_by c.args.m.now (search rules) c.requires.0 _ c.requires.1 _ _ _ _ _
    c.word-n.ensures c.close_gap-first.ensures.left c.set_word.ensures c.set_word-2.ensures)
