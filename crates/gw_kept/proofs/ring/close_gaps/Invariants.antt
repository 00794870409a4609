use Rattle.std.proofs.Common.{◌≡◌}
use Rattle.circular_buffer.specs.Buffer.{buffer}
use Rattle.gw_kept.proofs.Settled.{turned}
use Rattle.gw_kept.proofs.ring.close_gaps.Given as goal

abbrev pub invariant-loop-at : goal.invariant-loop-at
invariant-loop-at l = l.ring ≡ buffer (turned l.fn.ring.items l._at) l.fn.ring.capacity
