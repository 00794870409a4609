use Rattle.gw_table.proofs.Localities.{part_beside}
use Rattle.gw_foot.proofs.OutAndBack.{cut_unused}
use Rattle.gw_foot.proofs.WithOthers.{keys_beside}
use Rattle.gw_foot.proofs.laws.footprints_are_the_same_while_others_are_out.Goals as goal

pub returns-clause-keys : goal.returns-clause-keys
returns-clause-keys c = keys_beside

pub returns-clause-part : goal.returns-clause-part
returns-clause-part c = part_beside

pub returns-clause-unused : goal.returns-clause-unused
returns-clause-unused c = cut_unused
