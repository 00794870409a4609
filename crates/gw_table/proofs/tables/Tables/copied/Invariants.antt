use Rattle.std.proofs.Common.{◌≡◌, map, take}
use Rattle.gw_table.specs.Cells.{visible_cell}
use Rattle.gw_table.specs.Stored.{maps_of}
use Rattle.gw_table.proofs.tables.Tables.copied.Given as goal

-- the cells so far
abbrev pub invariant-loop-key : goal.invariant-loop-key
invariant-loop-key l = l.cells.items ≡ map (visible_cell (maps_of l.self)) (take l.key-index l.key-items)
