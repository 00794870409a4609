use Rattle.std.proofs.Common.{◌≡◌, length}
use Rattle.gw_msg.specs.Reading.{contents_at}
use Rattle.gw_msg.proofs.ContentsLoop.{with_front}
use Rattle.gw_msg.proofs.actions.contents.Given as goal

-- the properties that were read before, and what is still read, are the whole contents
abbrev pub invariant-loop-cursor : goal.invariant-loop-cursor
invariant-loop-cursor l = with_front l.props.items (contents_at l.cursor) ≡ contents_at l.fn.cursor

abbrev pub decreases-loop-cursor : goal.decreases-loop-cursor
decreases-loop-cursor l = length l.cursor
