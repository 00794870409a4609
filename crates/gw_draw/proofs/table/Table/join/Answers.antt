use Rattle.std.proofs.Common.{rules}
use Rattle.gw_draw.proofs.Rule.{joins}
use Rattle.gw_draw.proofs.table.Table.join.Goals as goal

pub join_seat-requires : goal.join_seat-requires
join_seat-requires c = (c.requires.table, c.requires.other, search rules, search rules, joins _ _ _ _ _ _ (search rules))
