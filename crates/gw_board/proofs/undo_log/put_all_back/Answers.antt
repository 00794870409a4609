use Rattle.std.proofs.Common.{◌≡◌, List, [], ◌∷◌, ◌++◌, sym, ap, subst, ◌∙◌}
use Rattle.gw_table.specs.Maps.{Maps}
use Rattle.gw_table.specs.Stored.{maps_of, AreReady}
use Rattle.gw_board.specs.Fitting.{Each}
use Rattle.gw_board.specs.UndoLog.{UndoStep, undone}
use Rattle.gw_board.proofs.KeptIn.{all_ready}
use Rattle.gw_board.proofs.Orders.{each_front}
use Rattle.gw_board.proofs.Steps.{undone-append}
use Rattle.gw_board.proofs.undo_log.put_all_back.Goals as goal

pub loop-undo_step-preserved : goal.loop-undo_step-preserved
loop-undo_step-preserved c =
    let front : List UndoStep = c.pop.new.self.items in
    let last : UndoStep = c.in-Some.undo_step in
    let m : Maps = maps_of c.loop-undo_step.tables in
    let split : c.loop-undo_step.undo_log.items ≡ front ++ last ∷ [] = c.in-Some.ensures.items in
    record {
      here = λ k. c.put_back.ensures.out k ∙ c.loop-undo_step.invariant.here k;
      ready = all_ready front c.loop-undo_step.tables c.put_back.new.tables (λ k i. c.put_back.ensures.ready k ∙ i)
          (each_front (λ o. AreReady o.keys c.loop-undo_step.tables) front (last ∷ []) (subst (λ (l : List UndoStep). Each (λ o. AreReady o.keys c.loop-undo_step.tables) l) split c.loop-undo_step.invariant.ready));
      back =
          ap (undone front) c.put_back.ensures.maps
          ∙ sym (undone-append front (last ∷ []) m)
          ∙ ap (λ (l : List UndoStep). undone l m) (sym split)
          ∙ c.loop-undo_step.invariant.back;
      capacity = c.pop.ensures.capacity ∙ c.loop-undo_step.invariant.capacity;
    }
