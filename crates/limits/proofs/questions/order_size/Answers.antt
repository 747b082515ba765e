-- The test of the total against the side's figure is the size question's own: the first no is the side's, or none.
use Rattle.integers.specs.Basics.{arith}
use Rattle.limits.proofs.InOrder.{by_size}
use Rattle.limits.proofs.questions.order_size.Goals as goal

pub returns-then-le : goal.returns-then-le
returns-then-le c r ls o in_force side whole =
    grind (arith, by_size r ls o _ _ _ _ in_force side whole c.largest_order.ensures)

pub returns-else-le : goal.returns-else-le
returns-else-le c r ls o in_force side whole =
    grind (arith, by_size r ls o _ _ _ _ in_force side whole c.largest_order.ensures)
