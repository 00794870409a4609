use Rattle.std.proofs.Common.{take}
use Rattle.gw_table.specs.Stored.{ArePrepared}
use Rattle.gw_table.proofs.tables.Tables.prepare_each.Given as goal

-- the keys so far are prepared
abbrev pub invariant-loop-i : goal.invariant-loop-i
invariant-loop-i l = ArePrepared (take l.i l.keys) l.fn.self l.self
