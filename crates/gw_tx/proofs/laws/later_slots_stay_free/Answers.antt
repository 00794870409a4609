use Rattle.gw_tx.proofs.Unowned.{later_free}
use Rattle.gw_tx.proofs.laws.later_slots_stay_free.Goals as goal

pub returns : goal.returns
returns c = later_free
