use Rattle.std.proofs.Common.{◌≤◌, take, length}
use Rattle.std.specs.Io.KnownBytes.{Appends}
use Rattle.gw_front.proofs.writing.write_whole.Given as goal

-- so many bytes of the text are out
abbrev pub invariant-loop-turn : goal.invariant-loop-turn
invariant-loop-turn g l = Appends (g.W.Write.contents l.fn.out) (g.W.Write.contents l.out) (take l.written l.text) × (l.written ≤ length l.text)
