use Rattle.std.proofs.Common.{arith}
use Rattle.gw_kept.proofs.Settled.{turned_front, turn_gap, turn_pair, turned_short}
use Rattle.gw_kept.proofs.ring.close_gaps.Goals as goal

pub loop-at-preserved : goal.loop-at-preserved
loop-at-preserved c = grind (arith, turned_front, turn_pair, turn_gap)

pub put_last-requires : goal.put_last-requires
put_last-requires c = grind (arith, turned_short)
