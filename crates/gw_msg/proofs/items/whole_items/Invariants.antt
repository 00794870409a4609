use Rattle.std.proofs.Common.{◌≡◌, length}
use Rattle.gw_text.specs.Reader.{items_at}
use Rattle.gw_text.proofs.Loops.{with_front}
use Rattle.gw_msg.specs.Reading.{item_at}
use Rattle.gw_msg.proofs.items.whole_items.Given as goal

-- what was read before, and what is still read, are all the items
abbrev pub invariant-loop-parts : goal.invariant-loop-parts
invariant-loop-parts l = with_front l.parts.items (items_at item_at l.cursor) ≡ items_at item_at l.fn.cursor

abbrev pub decreases-loop-parts : goal.decreases-loop-parts
decreases-loop-parts l = length l.cursor
