use Rattle.std.proofs.Common.{◌+◌, ◌∙◌, arith}
use Rattle.gw_reserve.proofs.Cyclic.{cyclic_low, cyclic_high}
use Rattle.gw_reserve.proofs.order.Order.stretch.Goals as goal

pub returns-then-rank-behind-clause-rising : goal.returns-then-rank-behind-clause-rising
returns-then-rank-behind-clause-rising c k h = cyclic_low c.args.self.start c.args.self.limit (c.args.rank + k) 0 (omega arith) ∙ omega arith

pub returns-else-rank-behind-clause-rising : goal.returns-else-rank-behind-clause-rising
returns-else-rank-behind-clause-rising c k h = cyclic_high c.args.self.start c.args.self.limit (c.args.rank + k) 0 c.requires.start (omega arith) (omega arith) ∙ omega arith
