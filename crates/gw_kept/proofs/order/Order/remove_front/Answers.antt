use Rattle.std.proofs.Common.{arith}
use Rattle.gw_kept.proofs.Orders.{front_left}
use Rattle.gw_kept.proofs.order.Order.remove_front.Goals as goal

pub returns-clause-order : goal.returns-clause-order
returns-clause-order c = grind (arith, front_left)
