use Rattle.std.proofs.Common.{rules}
use Rattle.gw_draw.proofs.Rule.{draws}
use Rattle.gw_draw.proofs.draw.draw_one.Goals as goal

pub fetch_add-requires : goal.fetch_add-requires
fetch_add-requires c = (c.requires.table, search rules, draws _ _ _ _ _ (search rules) c.requires.jobs_alone)
