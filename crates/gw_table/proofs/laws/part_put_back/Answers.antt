use Rattle.gw_table.proofs.PartLookups.{put_back}
use Rattle.gw_table.proofs.laws.part_put_back.Goals as goal

pub returns : goal.returns
returns c = put_back
