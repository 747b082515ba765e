-- Room made at the id's rank, the order put there, first and count written: by `joined_by` that stores the book's `insert`.
-- The order's record lies inside the region, because the first record stands at most at 256 and fewer than 256 orders are open.
use Rattle.std.specs.Prelude.{◌+◌, ◌<◌}
use Rattle.integers.specs.Basics.{arith, rules}
use Rattle.ledger.specs.Records.{order_of}
use Rattle.memory_layout.proofs.Lengths.{rank_open}
use Rattle.memory_layout.proofs.ListChanges.{joined_by}
use Rattle.memory_layout.proofs.FirstRecord.{joined_small}
use Rattle.memory_layout.proofs.orders.insert_order.Goals as goal

-- the order's record is one of the region
inside : (c : goal.After-put_order-arg-1) → let c =
    c in c.make_room-first.result + c.args.p < 512
inside c =
    omega (
      arith,
      c.make_room-first.ensures.first,
      joined_small c.args.m.now c.args.p c.requires.0.first,
      rank_open c.args.m.now c.args.id,
      c.requires.1,
      c.requires.2,
    )

pub make_room-first-requires : goal.make_room-first-requires
make_room-first-requires c = (
  c.requires.0,
  c.word-n.ensures,
  omega (
    arith,
    rank_open c.args.m.now c.args.id,
    c.requires.2,
    c.word-n.ensures,
  ),
  omega (arith, c.requires.1, c.word-n.ensures),
)

pub returns : goal.returns
unfolding order_of
returns c =
    let o = order_of c.args.id c.args.w.0 in
    rw (← c.make_room-first.ensures.first)
    (joined_by c.args.m.now (search rules) c.requires.0 o _ _ _ _ _ _ _
    c.word-n.ensures c.requires.2 c.make_room-first.ensures.room c.put_order.ensures c.set_word.ensures
    c.set_word-2.ensures)

pub overflow_add-first : goal.overflow_add-first
overflow_add-first c = omega (arith, inside c)

pub put_order-requires : goal.put_order-requires
put_order-requires c = (search rules, inside c)
