-- Each level's line, by the name that the match gives it, is judged, so its words are inside the memory; what is stored there is what
-- `worked` stores.
use Rattle.integers.specs.Basics.{arith, rules}
use Rattle.memory_working.proofs.Rooms.{room, if_any}
use Rattle.memory_working.proofs.LineFigures.{storable, ready_line, worked_line, group_handed}
use Rattle.memory_working.proofs.settings.work_limit.Goals as goal

pub own_line-requires : goal.own_line-requires
own_line-requires c = let r = room (ready_line c.in-Own.is c.requires) in (r.1, r.2)

pub line_of-requires : goal.line_of-requires
line_of-requires c = storable (ready_line c.in-Own.is c.requires)

pub set_line-requires : goal.set_line-requires
set_line-requires c = let r = room (ready_line c.in-Own.is c.requires) in (omega arith, if_any c.line_of.result (λ x. omega arith))

pub default_line-requires : goal.default_line-requires
default_line-requires c = let r = room (ready_line c.in-Default.is c.requires) in (r.1, r.2)

pub line_of-requires-in-Default : goal.line_of-requires-in-Default
line_of-requires-in-Default c = storable (ready_line c.in-Default.is c.requires)

pub set_line-requires-in-Default : goal.set_line-requires-in-Default
set_line-requires-in-Default c = let r = room (ready_line c.in-Default.is c.requires) in
    (omega arith, if_any c.line_of-in-Default.result (λ x. omega arith))

pub group_line_of-requires : goal.group_line_of-requires
group_line_of-requires c = storable (ready_line (group_handed c.in-OfGroup.is (search rules) (search rules)) c.requires)

pub set_of_group-requires : goal.set_of_group-requires
set_of_group-requires c = room (ready_line c.in-OfGroup.is c.requires)

pub returns-in-Own : goal.returns-in-Own
returns-in-Own c =
    worked_line _ _ c.in-Own.is (rw (c.own_line.ensures.0, c.own_line.ensures.1, c.line_of.ensures) at c.set_line.ensures)

pub returns-in-Default : goal.returns-in-Default
returns-in-Default c =
    worked_line _ _ c.in-Default.is
    (rw (c.default_line.ensures.0, c.default_line.ensures.1, c.line_of-in-Default.ensures) at c.set_line-in-Default.ensures)

pub returns-in-OfGroup : goal.returns-in-OfGroup
returns-in-OfGroup c =
    worked_line _ _ (group_handed c.in-OfGroup.is (search rules) (search rules)) (rw c.group_line_of.ensures at c.set_of_group.ensures)
