use Rattle.std.proofs.Common.{sym}
use Rattle.gw_reserve.proofs.Cyclic.{cyclic_low, cyclic_high}
use Rattle.gw_reserve.proofs.order.Order.at.Goals as goal

pub returns-then-rank-behind-clause-value : goal.returns-then-rank-behind-clause-value
returns-then-rank-behind-clause-value c = sym (cyclic_low c.args.self.start c.args.self.limit c.args.rank 0 c.if-rank-behind.true)

pub returns-else-rank-behind-clause-value : goal.returns-else-rank-behind-clause-value
returns-else-rank-behind-clause-value c = sym (cyclic_high c.args.self.start c.args.self.limit c.args.rank 0 c.requires.start c.if-rank-behind.false c.requires.rank)
