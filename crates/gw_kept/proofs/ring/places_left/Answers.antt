use Rattle.std.proofs.lemmas.Grind.{common_steps}
use Rattle.std.proofs.Common.{arith}
use Rattle.gw_kept.proofs.Settled.{rank_more}
use Rattle.gw_kept.proofs.ring.places_left.Goals as goal

pub loop-at-preserved : goal.loop-at-preserved
loop-at-preserved c = grind (arith, common_steps, rank_more)
