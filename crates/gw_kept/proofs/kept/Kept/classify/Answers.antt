use Rattle.std.proofs.lemmas.Grind.{common_steps}
use Rattle.std.proofs.Common.{arith}
use Rattle.gw_kept.proofs.Bursts.{as_seen, goes_on}
use Rattle.gw_kept.proofs.Indexes.{requested_here}
use Rattle.gw_kept.proofs.kept.Kept.classify.Goals as goal

pub loop-point-init : goal.loop-point-init
loop-point-init c = grind (arith, as_seen)

pub loop-point-preserved : goal.loop-point-preserved
loop-point-preserved c = grind (arith, common_steps, requested_here, goes_on)
