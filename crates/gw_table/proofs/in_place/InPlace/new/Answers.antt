use Rattle.std.proofs.Common.{List, refl, sym, subst}
use Rattle.gw_table.specs.declared.undo_log.Write.{Write}
use Rattle.gw_table.specs.Stored.{Stored}
use Rattle.gw_table.specs.UndoLog.{IsInPlace}
use Rattle.gw_table.proofs.in_place.InPlace.new.Goals as goal

pub invariant_of-result : goal.invariant_of-result
invariant_of-result c =
    subst (λ (s : Stored). IsInPlace s c.args.tables c.new.result.items) (sym c.of-before.ensures)
    (subst (λ (ws : List Write). IsInPlace c.args.tables c.args.tables ws) (sym c.new.ensures.items)
    (record { here = c.requires; back = refl; places = λ k h. absurd cc; kept = λ k h. h; alone = λ k h r. r }))
