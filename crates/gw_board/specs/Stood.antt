-- What stood at the keys of a place before it was closed (own).
use Rattle.gw_board.specs.declared.undo_step.Stood.{Stood}
use Rattle.gw_board.specs.declared.undo_step.Stood.TheVariants.{OfJob, OfWrites}
use Rattle.gw_board.specs.UndoLog.{UndoStep}
use Rattle.gw_board.specs.BoardEntries.{undo_step_of_part, undo_step_of_writes}

abbrev pub stood_undo_step : Stood → UndoStep
stood_undo_step (OfJob p) = undo_step_of_part p
stood_undo_step (OfWrites writes) = undo_step_of_writes writes
