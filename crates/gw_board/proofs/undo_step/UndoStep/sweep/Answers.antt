use Rattle.gw_table.specs.Parts.{list_of}
use Rattle.gw_table.proofs.Swept.{fewer_swept}
use Rattle.gw_board.proofs.undo_step.UndoStep.sweep.Goals as goal

pub returns-in-OfJob-clause-fewer : goal.returns-in-OfJob-clause-fewer
returns-in-OfJob-clause-fewer c =
    fewer_swept (list_of c.in-OfJob.part.keys) c.args.tables.now c.sweep_part.new.self (record { maps = c.sweep_part.ensures.maps; out = c.sweep_part.ensures.out; ready = c.sweep_part.ensures.ready })
