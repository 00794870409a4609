use Rattle.std.proofs.Common.{arith}
use Rattle.gw_kept.proofs.Spans.{end_found}
use Rattle.gw_kept.proofs.order.Order.end_of.Goals as goal

pub returns-in-Ok-clause-end : goal.returns-in-Ok-clause-end
returns-in-Ok-clause-end c = grind (arith, end_found)
