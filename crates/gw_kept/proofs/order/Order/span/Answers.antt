use Rattle.std.proofs.Common.{arith}
use Rattle.gw_kept.proofs.Spans.{is_span}
use Rattle.gw_kept.proofs.order.Order.span.Goals as goal

pub returns-clause-span : goal.returns-clause-span
returns-clause-span c = grind (arith, is_span)
