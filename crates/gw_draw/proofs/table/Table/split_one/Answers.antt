use Rattle.std.proofs.Common.{rules}
use Rattle.gw_draw.proofs.Rule.{splits}
use Rattle.gw_draw.proofs.table.Table.split_one.Goals as goal

pub split_seat-requires : goal.split_seat-requires
split_seat-requires c = (c.requires.table, search rules, splits _ _ _ _ c.requires.more c.requires.blank)
