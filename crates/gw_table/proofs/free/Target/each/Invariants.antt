use Rattle.std.proofs.Common.{◌≡◌, take}
use Rattle.gw_table.proofs.free.Target.each.Given as goal

-- the names so far
abbrev pub invariant-loop-name : goal.invariant-loop-name
invariant-loop-name l = l.targets.items ≡ take l.name-index l.names
