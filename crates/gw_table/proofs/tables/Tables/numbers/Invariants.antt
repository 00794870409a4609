use Rattle.std.proofs.Common.{◌≡◌, ◌++◌, map}
use Rattle.gw_table.specs.Maps.{number}
use Rattle.gw_table.proofs.Shown.{keys_here}
use Rattle.gw_table.proofs.tables.Tables.numbers.Given as goal

-- the numbers so far, and those that are left, are all
abbrev pub invariant-loop-number : goal.invariant-loop-number
invariant-loop-number l = l.numbers.items ++ map number (keys_here l.number-iterator) ≡ map number (keys_here l.initial.number-iterator)
