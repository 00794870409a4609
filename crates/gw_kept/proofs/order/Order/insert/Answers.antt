use Rattle.std.proofs.Common.{arith}
use Rattle.std.proofs.lemmas.List.{length-map}
use Rattle.gw_kept.proofs.Orders.{one_more_order}
use Rattle.gw_kept.proofs.order.Order.insert.Goals as goal

pub returns-in-Err-clause-order : goal.returns-in-Err-clause-order
returns-in-Err-clause-order c = grind (arith, length-map, one_more_order)
