use Rattle.gw_table.proofs.Undone.{one_of_them}
use Rattle.gw_table.proofs.row.is_at.Goals as goal

pub returns-then-at-writes : goal.returns-then-at-writes
returns-then-at-writes c = one_of_them c.args.writes.now c.args.at c.index-writes-at.result c.args.key.now c.is_of.result c.if-at-writes.true c.index-writes-at.is c.is_of.ensures
