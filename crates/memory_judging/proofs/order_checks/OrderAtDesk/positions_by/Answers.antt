-- The row, balances, roster and group line are parts of the memory that say what its view says (`by_parts`), so the answer by the parts is
-- that of questions 21 to 24; a sound desk keeps all within the bounds that are asked for.
use Rattle.memory_judging.proofs.OrderAnswers.{weigh_bounds, by_parts}
use Rattle.memory_judging.proofs.order_checks.OrderAtDesk.positions_by.Goals as goal

pub invariant_of-account : goal.invariant_of-account
invariant_of-account c =
    let held = rw c.desk.view_is at c.desk.invariant.0 in
    record {
      bounds =
          rw (
            c.balances.ensures,
            c.account-at_desk.ensures.0,
            c.account-at_desk.ensures.1,
            c.roster-roster.ensures,
            c.desk.view_is,
          ) (weigh_bounds _ _ _ held c.args.self.now.asked.on c.requires.2 c.requires.3);
    }

pub returns : goal.returns
returns c after raised =
    let held = rw c.desk.view_is at c.desk.invariant.0 in
    let asked = c.args.self.now.asked in
    let holds = rw (c.account-at_desk.ensures.0, c.account-at_desk.ensures.1, asked.group) at c.group_line-group_line.ensures in
    by_parts _ _ _ held asked.on c.requires.2 c.requires.3 _ c.requires.0 _ _ _ _ c.of.ensures c.requires.1 holds
    (rw (
      c.balances.ensures,
      c.account-at_desk.ensures.0,
      c.account-at_desk.ensures.1,
      c.roster-roster.ensures,
      c.desk.view_is,
    ) at c.positions_within.ensures) after raised
