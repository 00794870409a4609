use Rattle.std.proofs.Common.{arith}
use Rattle.gw_kept.proofs.Rows.{set_outside}
use Rattle.gw_kept.proofs.ring.free.Goals as goal

pub returns-in_default : goal.returns-in_default
returns-in_default c = grind (arith, set_outside)
