use Rattle.std.proofs.Common.{◌≡◌, length, take}
use Rattle.gw_table.specs.Cells.{celled}
use Rattle.gw_table.specs.Stored.{AreMoved}
use Rattle.gw_table.proofs.tables.Tables.put_each.Given as goal

-- the keys so far were moved
abbrev pub invariant-loop-i : goal.invariant-loop-i
invariant-loop-i l = record {
  moved : AreMoved (take l.i l.keys) (celled l.keys l.fn.cells) l.fn.self (celled l.keys l.cells) l.self;
  as_many : length l.cells ≡ length l.keys;
}
