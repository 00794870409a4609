use Rattle.std.proofs.Common.{take}
use Rattle.gw_table.specs.UndoLog.{keys_written}
use Rattle.gw_table.specs.Stored.{WereSwept}
use Rattle.gw_table.proofs.tables.Tables.sweep_writes.Given as goal

-- the keys of the writes so far are swept
abbrev pub invariant-loop-write : goal.invariant-loop-write
invariant-loop-write l = WereSwept (keys_written (take l.write-index l.writes)) l.fn.self l.self
