use Rattle.std.proofs.Common.{take}
use Rattle.gw_table.specs.Stored.{WereSwept}
use Rattle.gw_table.proofs.tables.Tables.sweep_each.Given as goal

-- the keys so far are swept
abbrev pub invariant-loop-i : goal.invariant-loop-i
invariant-loop-i l = WereSwept (take l.i l.keys) l.fn.self l.self
