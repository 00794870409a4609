use Rattle.std.proofs.Common.{◌≡◌, take}
use Rattle.gw_engine.specs.Phases.{points_of}
use Rattle.gw_engine.proofs.classify.points_of.Given as goal

-- the points so far
abbrev pub invariant-loop-item : goal.invariant-loop-item
invariant-loop-item l = l.points ≡ points_of (take l.item-index l.items)
