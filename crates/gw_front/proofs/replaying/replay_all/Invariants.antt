use Rattle.std.proofs.Common.{◌≡◌, []}
use Rattle.std.specs.Io.Buffered.{reader_remaining}
use Rattle.gw_front.specs.Replaying.{IsSoFar}
use Rattle.gw_front.proofs.replaying.replay_all.Given as goal

-- the bursts so far were carried out and answered, and the buffer has nothing
abbrev pub invariant-loop-turn : goal.invariant-loop-turn
invariant-loop-turn g l = record {
  so_far : IsSoFar (reader_remaining g.R.Read.remaining l.fn.input) (reader_remaining g.R.Read.remaining l.input) (g.W.Write.contents l.fn.out) (g.W.Write.contents l.out) l.fn.gateway l.gateway l.counts;
  empty : l.held.items ≡ [];
}
