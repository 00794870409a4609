use Rattle.std.proofs.Common.{◌≡◌, vec_len}
use Rattle.std.specs.Prelude.{vec_capacity}
use Rattle.gw_table.specs.Stored.{maps_of, NoneIsOut, AreReady}
use Rattle.gw_board.specs.Fitting.{Each}
use Rattle.gw_board.specs.UndoLog.{undone}
use Rattle.gw_board.proofs.undo_log.put_all_back.Given as goal

-- the originals that are left lead back to where all of them did
abbrev pub invariant-loop-undo_step : goal.invariant-loop-undo_step
invariant-loop-undo_step l = record {
  here : NoneIsOut l.tables;
  ready : Each (λ o. AreReady o.keys l.tables) l.undo_log.items;
  back : undone l.undo_log.items (maps_of l.tables) ≡ undone l.initial.undo_log.items (maps_of l.initial.tables);
  capacity : vec_capacity l.undo_log ≡ vec_capacity l.initial.undo_log;
}

abbrev pub decreases-loop-undo_step : goal.decreases-loop-undo_step
decreases-loop-undo_step l = vec_len l.undo_log
