use Rattle.std.proofs.Common.{arith}
use Rattle.gw_kept.proofs.Rows.{none_there}
use Rattle.gw_kept.proofs.ring.pair_at.Goals as goal

pub returns-in-None : goal.returns-in-None
returns-in-None c = grind (arith, none_there)
