use Rattle.std.proofs.Common.{◌≡◌, ◌++◌, flat_map, take}
use Rattle.gw_engine.specs.Phases.{items_in}
use Rattle.gw_engine.proofs.items.push_items.Given as goal

-- the items of the message so far
abbrev pub invariant-loop-part : goal.invariant-loop-part
invariant-loop-part l = l.items ≡ l.fn.items ++ flat_map (items_in l.peer l.mid) (take l.part-index l.parts)
