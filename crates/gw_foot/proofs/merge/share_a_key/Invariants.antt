use Rattle.std.proofs.Common.{◌+◌, length}
use Rattle.gw_foot.proofs.Merging.{IsLeft}
use Rattle.gw_foot.proofs.merge.share_a_key.Given as goal

abbrev pub invariant-loop-left : goal.invariant-loop-left
invariant-loop-left l = IsLeft l.b l.a l.right l.left

abbrev pub decreases-loop-left : goal.decreases-loop-left
decreases-loop-left l = length l.left + length l.right
