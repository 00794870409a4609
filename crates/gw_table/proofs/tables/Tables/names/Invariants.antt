use Rattle.std.proofs.Common.{◌≡◌, ◌++◌}
use Rattle.gw_table.proofs.Shown.{keys_here}
use Rattle.gw_table.proofs.tables.Tables.names.Given as goal

-- the names so far, and those that are left, are all
abbrev pub invariant-loop-name : goal.invariant-loop-name
invariant-loop-name l = l.names.items ++ keys_here l.name-iterator ≡ keys_here l.initial.name-iterator
