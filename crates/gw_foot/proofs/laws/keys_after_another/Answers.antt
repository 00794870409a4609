use Rattle.gw_foot.proofs.WithOthers.{keys_after}
use Rattle.gw_foot.proofs.laws.keys_after_another.Goals as goal

pub returns : goal.returns
returns c = keys_after
