-- One element after the other, up to the end tag of the one that holds them; `Held` says how far the loop has come.
use Rattle.std.specs.Prelude.{◌-◌}
use Rattle.integers.specs.Basics.{length}
use Rattle.grammar.specs.Readable.{name_of}
use Rattle.memory_loading.proofs.HeldElements.{Held}
use Rattle.memory_loading.proofs.elements.read_children.Given as goal

abbrev pub invariant-loop-next : goal.invariant-loop-next
invariant-loop-next g l =
    let c = g.C.Children in
    Held c.layout (c.entries l.children) c.counts (name_of c.holder) l.fn.at l.fn.m l.fn.before l.place l.count l.m l.progress

abbrev pub decreases-loop-next : goal.decreases-loop-next
decreases-loop-next g l = length l.at.bytes - l.place.at
