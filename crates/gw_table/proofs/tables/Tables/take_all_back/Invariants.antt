use Rattle.std.proofs.Common.{◌≡◌, vec_len}
use Rattle.gw_table.specs.UndoLog.{keys_written, undone}
use Rattle.gw_table.specs.Stored.{maps_of, AreReady, AreIn, AreAsReady, AreAsOut}
use Rattle.gw_table.proofs.tables.Tables.take_all_back.Given as goal

-- the writes that are left, taken back, give what all of them give
abbrev pub invariant-loop-write : goal.invariant-loop-write
invariant-loop-write l = record {
  back : undone l.writes.items (maps_of l.self) ≡ undone l.fn.writes.items (maps_of l.fn.self);
  ready : AreReady (keys_written l.writes.items) l.self;
  here : AreIn (keys_written l.writes.items) l.self;
  as_out : AreAsOut l.fn.self l.self;
  as_ready : AreAsReady l.fn.self l.self;
}

abbrev pub decreases-loop-write : goal.decreases-loop-write
decreases-loop-write l = vec_len l.writes
