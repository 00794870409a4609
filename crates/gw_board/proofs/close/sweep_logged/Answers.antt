use Rattle.std.proofs.Common.{ℕ, List, [], ◌∷◌, ◌++◌, take, sym, ap, subst, ◌∙◌}
use Rattle.std.proofs.lemmas.List.{take_more}
use Rattle.gw_table.specs.Stored.{AreSweptAmong}
use Rattle.gw_board.specs.Fitting.{Each}
use Rattle.gw_board.specs.UndoLog.{UndoStep}
use Rattle.gw_board.proofs.Orders.{each_joined}
use Rattle.gw_table.proofs.Swept.{fewer_entries}
use Rattle.gw_board.proofs.Spare.{swept_on}
use Rattle.gw_board.proofs.close.sweep_logged.Goals as goal

pub returns-then-all-clause-fewer : goal.returns-then-all-clause-fewer
returns-then-all-clause-fewer c = fewer_entries c.args.tables.now c.sweep.new.self c.sweep.ensures.maps c.sweep.ensures.ready

pub loop-undo_step-preserved : goal.loop-undo_step-preserved
loop-undo_step-preserved c =
    let so_far = c.loop-undo_step.invariant in
    let os : List UndoStep = c.args.undo_log.now in
    let i : ℕ = c.loop-undo_step.undo_step-index in
    let o : UndoStep = c.undo_step-item.result in
    record {
      maps = c.sweep-in-loop-undo_step.ensures.maps ∙ so_far.maps;
      here = c.sweep-in-loop-undo_step.ensures.here;
      swept =
          subst (λ (l : List UndoStep). Each (λ o. AreSweptAmong o.keys c.sweep-in-loop-undo_step.new.tables) l)
          (sym (take_more os i o c.loop-undo_step-test.true ∙ ap (λ (x : UndoStep). take i os ++ x ∷ []) (sym c.undo_step-item.is)))
          (each_joined (λ o. AreSweptAmong o.keys c.sweep-in-loop-undo_step.new.tables) (take i os) (o ∷ []) (swept_on (take i os) c.loop-undo_step.tables c.sweep-in-loop-undo_step.new.tables c.sweep-in-loop-undo_step.ensures.maps c.sweep-in-loop-undo_step.ensures.fewer so_far.swept) (c.sweep-in-loop-undo_step.ensures.swept, tt));
      fewer = λ k r. so_far.fewer k (c.sweep-in-loop-undo_step.ensures.fewer k r);
    }
