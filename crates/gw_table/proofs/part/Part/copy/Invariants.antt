use Rattle.std.proofs.Common.{◌≡◌, take}
use Rattle.gw_table.proofs.part.Part.copy.Given as goal

-- the cells so far
abbrev pub invariant-loop-cell : goal.invariant-loop-cell
invariant-loop-cell l = l.cells.items ≡ take l.cell-index l.cell-items
