use Rattle.std.proofs.Common.{arith}
use Rattle.std.proofs.lemmas.Grind.{common_steps}
use Rattle.gw_text.proofs.OctetsPlain.{end_blank}
use Rattle.gw_text.proofs.octets.solid_end.Goals as goal

pub loop-front-preserved : goal.loop-front-preserved
loop-front-preserved c = grind (arith, common_steps, end_blank)
