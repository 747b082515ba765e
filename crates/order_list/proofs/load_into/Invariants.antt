-- At place p the orders of the records before it are loaded.
use Rattle.std.proofs.Common.{◌≡◌}
use Rattle.order_list.specs.OrderList.{loaded_to}
use Rattle.order_list.proofs.load_into.Given as goal

abbrev pub invariant-loop-p : goal.invariant-loop-p
invariant-loop-p l = l.orders ≡ loaded_to l.initial.orders l.records l.p
