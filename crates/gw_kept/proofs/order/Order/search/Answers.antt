use Rattle.std.proofs.Common.{arith}
use Rattle.std.proofs.lemmas.Fn.{always_returns_same}
use Rattle.gw_kept.proofs.Orders.{searched}
use Rattle.gw_kept.proofs.order.Order.search.Goals as goal

pub returns-clause-stand : goal.returns-clause-stand
returns-clause-stand c = grind (arith, searched, always_returns_same)
