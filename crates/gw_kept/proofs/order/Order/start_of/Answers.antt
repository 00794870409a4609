use Rattle.std.proofs.Common.{arith}
use Rattle.gw_kept.proofs.Spans.{start_found}
use Rattle.gw_kept.proofs.order.Order.start_of.Goals as goal

pub returns-in-Ok-clause-start : goal.returns-in-Ok-clause-start
returns-in-Ok-clause-start c = grind (arith, start_found)
