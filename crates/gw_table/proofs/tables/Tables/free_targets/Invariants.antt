use Rattle.std.proofs.Common.{◌≡◌, ◌++◌}
use Rattle.gw_table.proofs.FreeNames.{free_here}
use Rattle.gw_table.proofs.tables.Tables.free_targets.Given as goal

-- the names so far, and those that are left, are all
abbrev pub invariant-loop-name : goal.invariant-loop-name
invariant-loop-name l = l.targets.items ++ free_here l.name-iterator ≡ free_here l.initial.name-iterator
