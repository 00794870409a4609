use Rattle.std.proofs.Common.{◌≡◌, length, take, vec_capacity}
use Rattle.gw_table.specs.Cells.{celled}
use Rattle.gw_table.specs.Stored.{AreMoved, nothing_stored}
use Rattle.gw_table.proofs.tables.Tables.take_each.Given as goal

-- the keys so far were moved, and there is room for the others
abbrev pub invariant-loop-i : goal.invariant-loop-i
invariant-loop-i l = record {
  moved : AreMoved (take l.i l.keys) l.fn.self nothing_stored l.self (celled l.keys l.cells.items);
  as_many : length l.cells.items ≡ l.i;
  room : vec_capacity l.cells ≡ vec_capacity l.fn.cells;
}
