use Rattle.std.proofs.Common.{◌≡◌, ◌++◌}
use Rattle.gw_msg.proofs.items.placed_items.Given as goal

-- with those that are left, they are all
abbrev pub invariant-loop-item : goal.invariant-loop-item
invariant-loop-item l = l.placed.items ++ l.item-iterator.rest.items ≡ l.initial.item-iterator.rest.items
