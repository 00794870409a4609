use Rattle.std.proofs.Common.{arith}
use Rattle.gw_msg.proofs.GlanceLaws.{glanced_within, glanced_there, glanced_text}
use Rattle.gw_msg.proofs.items.skimmed.Goals as goal

pub leave-requires : goal.leave-requires
leave-requires c = grind (arith, glanced_within)

pub of_text-requires : goal.of_text-requires
of_text-requires c = grind (arith, glanced_text)

pub returns : goal.returns
returns c = grind (arith, glanced_there)
