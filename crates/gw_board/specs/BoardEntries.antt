-- How places are kept (own).
use Rattle.std.specs.Prelude.{List, None}
use Rattle.gw_table.specs.declared.undo_log.Write.{Write}
use Rattle.gw_table.specs.UndoLog.{keys_written}
use Rattle.gw_table.specs.Parts.{Parted, list_of}
use Rattle.gw_board.specs.declared.board_entry.Stage.{Stage}
use Rattle.gw_board.specs.declared.board_entry.Stage.TheVariants as stage
use Rattle.gw_board.specs.declared.board_entry.BoardEntry.{BoardEntry}
use Rattle.gw_board.specs.Core.{Standing, Pending, Opened, Closed, Place}
use Rattle.gw_board.specs.UndoLog.{UndoStep, Placed, Taken}

-- a part, as the entries that a job's keys had
abbrev pub undo_step_of_part : Parted → UndoStep
undo_step_of_part p = record { keys = list_of p.keys; way = Placed p.maps }

-- what writes found, to be taken back
abbrev pub undo_step_of_writes : List Write → UndoStep
undo_step_of_writes writes = record { keys = keys_written writes; way = Taken writes }

abbrev pub standing_of : Stage → Standing
standing_of stage.Pending = Pending
standing_of (stage.Opened keys part) = Opened (record { keys = keys.items; part = part.value.maps; result = None })
standing_of (stage.Closed reply) = Closed reply

abbrev pub place_of : BoardEntry → Place
place_of s = record { requested = s.task; standing = standing_of s.stage }
