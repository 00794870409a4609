use Rattle.std.proofs.Common.{◌-◌, length}
use Rattle.std.specs.Io.Buffered.{reader_remaining}
use Rattle.gw_front.specs.Records.{AreOfBurst}
use Rattle.gw_front.specs.Inputs.{TakesFrom}
use Rattle.gw_front.proofs.burst_reading.next_burst.Given as goal

-- the datagrams so far were taken
abbrev pub invariant-loop-burst : goal.invariant-loop-burst
invariant-loop-burst g l = TakesFrom (AreOfBurst l.burst) (reader_remaining g.R.Read.remaining l.initial.reader) (reader_remaining g.R.Read.remaining l.reader)

abbrev pub decreases-loop-burst : goal.decreases-loop-burst
decreases-loop-burst g l = 257 - length l.burst
