use Rattle.std.proofs.lemmas.Grind.{common_steps}
use Rattle.std.proofs.Common.{arith}
use Rattle.gw_table.proofs.KeyOrder.{key_total}
use Rattle.gw_foot.proofs.Merging.{left_less, left_greater, left_equal, right_empty}
use Rattle.gw_foot.proofs.merge.share_a_key.Goals as goal

pub returns-in-Equal : goal.returns-in-Equal
returns-in-Equal c = grind (arith, left_equal, key_total.antisymm)

pub loop-left-preserved-in-Less : goal.loop-left-preserved-in-Less
loop-left-preserved-in-Less c = grind (arith, common_steps, left_greater, key_total.antisymm)

pub loop-left-preserved : goal.loop-left-preserved
loop-left-preserved c = grind (arith, common_steps, left_less, key_total.antisymm)

pub returns-in_default : goal.returns-in_default
returns-in_default c = right_empty _ _ c.loop-left.right.now c.loop-left.left.now (grind arith) c.loop-left.invariant
