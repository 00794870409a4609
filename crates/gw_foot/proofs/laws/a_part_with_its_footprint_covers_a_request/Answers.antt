use Rattle.gw_foot.proofs.OutAndBack.{part_unused}
use Rattle.gw_foot.proofs.WithOthers.{part_covers}
use Rattle.gw_foot.proofs.laws.a_part_with_its_footprint_covers_a_request.Goals as goal

pub returns-clause-covers : goal.returns-clause-covers
returns-clause-covers c = part_covers

pub returns-clause-unused : goal.returns-clause-unused
returns-clause-unused c = part_unused
