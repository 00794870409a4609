use Rattle.std.proofs.Common.{◌≡◌, length}
use Rattle.gw_text.specs.Reader.{list_at}
use Rattle.gw_text.proofs.Loops.{with_front}
use Rattle.gw_text.proofs.parts.list.Given as goal

-- what was read before, and what is still read, are the whole list
abbrev pub invariant-loop-parts : goal.invariant-loop-parts
invariant-loop-parts g l = with_front l.parts.items (list_at g.T.Parse.read_at l.cursor) ≡ list_at g.T.Parse.read_at l.fn.cursor

abbrev pub decreases-loop-parts : goal.decreases-loop-parts
decreases-loop-parts g l = length l.cursor
