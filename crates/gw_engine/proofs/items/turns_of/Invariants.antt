use Rattle.std.proofs.Common.{◌≡◌, take}
use Rattle.gw_engine.specs.Phases.{turns_in}
use Rattle.gw_engine.proofs.items.turns_of.Given as goal

-- the changes of the items so far
abbrev pub invariant-loop-item : goal.invariant-loop-item
invariant-loop-item l = l.turns ≡ turns_in (take l.item-index l.items)
