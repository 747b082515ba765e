-- The order's record is first + p, and writing it stores the list with place p set (`changed`); nothing else moves.
use Rattle.integers.specs.Basics.{◌∙◌, rules}
use Rattle.memory_layout.proofs.ListChanges.{changed}
use Rattle.memory_layout.proofs.orders.replace_order.Goals as goal

pub returns : goal.returns
returns c =
    c.put_order.ensures
    ∙ rw c.word.ensures (changed c.args.m.now (search rules) c.requires.0 _ c.requires.1 _)
