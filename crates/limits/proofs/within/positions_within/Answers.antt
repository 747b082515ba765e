-- The tests of the instrument's and the group's position are the questions' own, in their order.
use Rattle.std.specs.Prelude.{◌≡◌, ◌+ℤ◌, ◌*ℤ◌}
use Rattle.integers.specs.Basics.{ℕ, ◌∙◌, sym, ap, List, pos, nat_abs, cond, of_z, w64, to_z, to_z-of_z}
use Rattle.ledger.specs.declared.order.Order.{Order}
use Rattle.ledger.specs.Positions.{way_of, of_instrument}
use Rattle.ledger.specs.Records.{balances_in, roster_in}
use Rattle.ledger.specs.Derivatives.{one}
use Rattle.ledger.proofs.Fits.{again}
use Rattle.positions.specs.Gathered.{Gathered}
use Rattle.limits.specs.Lines.{Lines}
use Rattle.limits.specs.Questions.{first_no}
use Rattle.limits.specs.Asked.{position_questions}
use Rattle.limits.specs.Raised.{Raised}
use Rattle.limits.specs.Numbers.{group_number}
use Rattle.limits.specs.Bounds.{InForce, OfGroup}
use Rattle.limits.proofs.Room.{of_orders, of_group_lem}
use Rattle.limits.proofs.InOrder.{instrument_passed, no_group, by_group}
use Rattle.limits.proofs.within.positions_within.Goals as goal
use Rattle.limits.proofs.within.positions_within.Goals.{After-gt-2, After-instrument_with, After-weight_of-weight}

-- PCI or PVI with the event applied, by the open orders
found : (c : After-instrument_with) (n : ℕ) (before : List Order) → c.args.added.0 ≡ pos n
    → Gathered c.args.account.now.cells.now 0 before c.args.o.account → c.instrument_with.result.0
    ≡ of_instrument one before c.args.o.account (balances_in c.args.account.now.balances.now) c.args.o.instrument (way_of c.args.o.side)
    +ℤ pos n
found c n before more gathered =
    of_orders _ _ _ c.args.account.now.bounds before c.args.o.account gathered (way_of c.args.o.side)
    (pos n) c.args.o.instrument c.requires.0 _
    (c.instrument_with.ensures ∙ rw more)

weight : (c : After-weight_of-weight) → again c.weight_of-weight.result ≡
    (roster_in c.args.account.now.roster.now).weight c.args.o.instrument
weight c = to_z-of_z w64 c.weight_of-weight.result (record { sfits = c.weight_of-weight.type_inv }) ∙ c.weight_of-weight.ensures

-- the answer by the group's test, in both its cases
judged : (c : After-gt-2) (ls : Lines) (n : ℕ) (before after : List Order) → c.args.added.0 ≡ pos n
    → Gathered c.args.account.now.cells.now 0 before c.args.o.account
    → InForce (roster_in c.args.account.now.roster.now) ls c.args.o c.args.line.now
    → OfGroup (roster_in c.args.account.now.roster.now) ls c.args.o c.args.group_line.now
    → Raised n c.args.o before after
    → first_no (position_questions one (roster_in c.args.account.now.roster.now) ls after
    (balances_in c.args.account.now.balances.now) c.args.o)
    ≡ cond c.gt-2.result (group_number (way_of c.group_side-to.result)) 0
judged c ls n before after more gathered in_force of_group raised =
    let k = weight (goal.at.After-gt-2 c).After-weight_of-weight in
    rw c.gt-2.ensures
    (by_group _ ls before after _ _ _ _ _ in_force of_group raised _ _
    (found (goal.at.After-gt-2 c).After-instrument_with n before more gathered) c.largest_position.ensures
    (sym c.if-gt.ensures) c.requires.0
    (λ e. c.if-weight-eq0.false (ap (of_z w64) (c.weight_of-weight.ensures ∙ e)))
    (way_of c.group_side-to.result) (c.group_side-to.ensures ∙ rw k) _ _
    (of_group_lem _ _ _ c.args.account.now.bounds before c.args.o.account gathered (way_of c.group_side-to.result) _ _ c.group_with.result.0
    (c.group_with.ensures ∙ rw (k, more, c.requires.2)))
    (c.mul.ensures ∙ rw c.largest_position-2.ensures.figure))

pub returns-then-gt : goal.returns-then-gt
returns-then-gt c ls n before after more gathered in_force of_group raised =
    c.instrument_refusal.ensures
    ∙ sym (instrument_passed _ ls before after _ _ _ _ _ in_force of_group raised _ _
    (found (goal.at.returns-then-gt c).After-instrument_with n before more gathered)
    c.largest_position.ensures (sym c.if-gt.ensures))

pub returns-then-weight-eq0 : goal.returns-then-weight-eq0
returns-then-weight-eq0 c ls n before after more gathered in_force of_group raised =
    sym (no_group _ ls before after _ _ _ _ _ in_force of_group raised _ _
    (found (goal.at.returns-then-weight-eq0 c).After-instrument_with n before more gathered)
    c.largest_position.ensures (sym c.if-gt.ensures)
    (sym (weight (goal.at.returns-then-weight-eq0 c).After-weight_of-weight) ∙ ap (to_z w64) c.if-weight-eq0.true))

pub returns-then-gt-2 : goal.returns-then-gt-2
returns-then-gt-2 c ls n before after more gathered in_force of_group raised =
    c.group_refusal.ensures
    ∙ sym (judged (goal.at.returns-then-gt-2 c).After-gt-2 ls n before after more gathered in_force of_group raised ∙ rw c.if-gt-2.true)

pub returns : goal.returns
returns c ls n before after more gathered in_force of_group raised =
    sym (judged (goal.at.returns c).After-gt-2 ls n before after more gathered in_force of_group raised ∙ rw c.if-gt-2.false)
