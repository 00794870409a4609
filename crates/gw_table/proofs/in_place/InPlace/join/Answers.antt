use Rattle.std.proofs.Common.{◌≡◌, List, subst, ap, ◌∙◌}
use Rattle.std.proofs.lemmas.Result.{IfOk-weaker}
use Rattle.std.specs.Result.{IfOk}
use Rattle.gw_table.specs.declared.undo_log.Write.{Write}
use Rattle.gw_table.specs.Joining.{HasJoinedAt, with_member_if}
use Rattle.gw_table.specs.Parts.{Parted}
use Rattle.gw_table.specs.UndoLog.{keys_written}
use Rattle.gw_table.proofs.InPlace.{maps-joined, joined_in_place}
use Rattle.gw_table.proofs.in_place.InPlace.join.Goals as goal

pub invariant_of-self : goal.invariant_of-self
invariant_of-self c =
    joined_in_place c.self.inside.before.value c.self.inside.tables c.join.new.self c.self.inside.writes.items c.self.invariant c.args.number c.args.name c.join.result
    (subst (λ (l : List Write). IfOk c.join.result (λ b. HasJoinedAt (keys_written l) c.args.number c.args.name c.self.inside.tables b c.join.new.self)) c.deref.ensures.value c.join.ensures.joined)
    c.join.ensures.err

pub returns-clause-maps : goal.returns-clause-maps
returns-clause-maps c =
    IfOk-weaker c.join.result _ _
    (λ b h. maps-joined (keys_written c.deref.result.now) c.args.number c.args.name c.self.inside.tables c.join.new.self b h ∙ ap (λ (p : Parted). with_member_if b c.args.number c.args.name p.maps) c.self.view_is)
    c.join.ensures.joined
