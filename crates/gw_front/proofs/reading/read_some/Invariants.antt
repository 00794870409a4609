use Rattle.std.proofs.Common.{◌≡◌, length}
use Rattle.std.specs.Io.KnownBytes.{Keeps}
use Rattle.gw_front.proofs.reading.read_some.Given as goal

-- reads that a signal interrupted took nothing
abbrev pub invariant-loop-turn : goal.invariant-loop-turn
invariant-loop-turn g l = (length l.place ≡ length l.initial.place) × Keeps (g.R.Read.remaining l.initial.reader) (g.R.Read.remaining l.reader)
