-- One element after the other, up to the end tag of the one that holds them; `Held` says how far the loop has come.
use Rattle.integers.specs.Basics.{Some, ◌∙◌, ap, arith}
use Rattle.memory_loading.proofs.HeldElements.{held_nothing, held_closed, held_none, held_done, held_stuck, held_on, held_more}
use Rattle.memory_loading.proofs.elements.read_children.Goals as goal

-- how the element goes on
pub returns-in_err-next : goal.returns-in_err-next
returns-in_err-next g c =
    let C = g.C.Children in
    rw c.from_residual.ensures
    (held_nothing C.layout (C.entries c.args.children.now) C.counts _ c.args.at.now c.args.before c.requires c.inside.ensures c.args.said
    c.in_err-next.was)

pub returns-in-Closed : goal.returns-in-Closed
returns-in-Closed g c =
    let C = g.C.Children in
    rw c.and.ensures
    (held_closed C.layout (C.entries c.args.children.now) C.counts _ c.args.at.now _ c.requires c.inside.ensures c.args.said
    (c.in_ok-next.was ∙ ap Some c.in-Closed.is))

pub loop-next-init : goal.loop-next-init
loop-next-init g c =
    held_none _ _ _ _ c.args.at.now _ c.requires c.inside.ensures (c.in_ok-next.was ∙ ap Some c.in-Holds.is)

-- the end tag, or an element
pub returns-in-Some : goal.returns-in-Some
returns-in-Some g c =
    rw c.and-in-Some.ensures (held_done c.loop-next.invariant c.end_tag.ensures c.literal.ensures c.args.said c.in-Some.is)

pub returns-in_err-after : goal.returns-in_err-after
returns-in_err-after g c =
    rw c.from_residual-in_err-after.ensures
    (held_stuck c.loop-next.invariant c.end_tag.ensures c.literal.ensures c.in_default.is _ _ c.read.ensures c.args.said
    c.in_err-after.was)

pub loop-next-smaller : goal.loop-next-smaller
loop-next-smaller g c =
    omega (
      arith,
      held_on c.loop-next.invariant c.end_tag.ensures c.literal.ensures c.in_default.is _ _ c.read.ensures c.in_ok-after.was
          c.past_blanks-place.ensures.place,
    )

pub loop-next-preserved : goal.loop-next-preserved
loop-next-preserved g c =
    held_more c.loop-next.invariant c.end_tag.ensures c.literal.ensures c.in_default.is _ _ c.read.ensures c.in_ok-after.was
    c.past_blanks-place.ensures.place
