use Rattle.std.proofs.Common.{List, ap, ◌∙◌}
use Rattle.gw_table.specs.declared.undo_log.Write.{Write}
use Rattle.gw_table.specs.UndoLog.{undone}
use Rattle.gw_table.specs.Stored.{maps_of}
use Rattle.gw_table.proofs.tables.Tables.restore.Goals as goal

pub returns-clause-maps : goal.returns-clause-maps
returns-clause-maps c = c.take_all_back.ensures.maps ∙ ap (λ (l : List Write). undone l (maps_of c.args.self.now)) c.undo_log.view_is
