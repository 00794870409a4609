use Rattle.std.proofs.Common.{◌≡◌, take}
use Rattle.gw_table.specs.Stored.{maps_of, AreSweptAmong, KeepReady, NoneIsOut}
use Rattle.gw_board.specs.Fitting.{Each}
use Rattle.gw_board.proofs.close.sweep_logged.Given as goal

-- no entry went, and none is out; the keys of the originals so far are swept, and no key became prepared
abbrev pub invariant-loop-undo_step : goal.invariant-loop-undo_step
invariant-loop-undo_step l = record {
  maps : maps_of l.tables ≡ maps_of l.fn.tables;
  here : NoneIsOut l.tables;
  swept : Each (λ o. AreSweptAmong o.keys l.tables) (take l.undo_step-index l.undo_log);
  fewer : KeepReady l.tables l.fn.tables;
}
