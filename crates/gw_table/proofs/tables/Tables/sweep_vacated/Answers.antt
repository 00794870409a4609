use Rattle.std.proofs.Common.{List, subst, ◌∙◌}
use Rattle.gw_table.specs.declared.undo_log.Write.{Write}
use Rattle.gw_table.specs.UndoLog.{keys_written}
use Rattle.gw_table.specs.Stored.{AreSweptAmong}
use Rattle.gw_table.proofs.Swept.{swept_among, fewer_swept, fewer_entries}
use Rattle.gw_table.proofs.tables.Tables.sweep_vacated.Goals as goal

-- ---- in one pass

pub returns-then-are_many-clause-fewer : goal.returns-then-are_many-clause-fewer
returns-then-are_many-clause-fewer c = fewer_entries c.args.self.now c.sweep.new.self c.sweep.ensures.maps c.sweep.ensures.ready

-- ---- by look-ups

pub returns-else-are_many-clause-swept : goal.returns-else-are_many-clause-swept
returns-else-are_many-clause-swept c =
    subst (λ (l : List Write). AreSweptAmong (keys_written l) c.sweep_writes.new.self) (c.deref.ensures.value ∙ c.undo_log.view_is)
    (swept_among (keys_written c.deref.result.now) c.args.self.now c.sweep_writes.new.self c.sweep_writes.ensures)

pub returns-else-are_many-clause-fewer : goal.returns-else-are_many-clause-fewer
returns-else-are_many-clause-fewer c = fewer_swept (keys_written c.deref.result.now) c.args.self.now c.sweep_writes.new.self c.sweep_writes.ensures
