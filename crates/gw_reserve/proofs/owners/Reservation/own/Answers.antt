use Rattle.gw_base.specs.Choose.{is_choose}
use Rattle.gw_msg.specs.declared.message.Action.{Action}
use Rattle.gw_table.specs.Stored.{maps_of}
use Rattle.gw_reserve.specs.Owned.{is_adding}
use Rattle.gw_reserve.specs.Owners.{all_commands}
use Rattle.gw_reserve.proofs.Taken.{taken_length}
use Rattle.std.proofs.Common.{List, length, refl, ap, ◌∙◌}
use Rattle.gw_reserve.specs.ReservationView.{value_of}
use Rattle.gw_reserve.proofs.Owning.{if_both, own_paired, own_contexts, own_slots, own_cursors}
use Rattle.std.proofs.lemmas.Result.{IfOk-weaker}
use Rattle.gw_reserve.proofs.owners.Reservation.own.Goals as goal

pub returns-clause-entry_for_action : goal.returns-clause-entry_for_action
returns-clause-entry_for_action c =
    IfOk-weaker c.own_all.result _ _
    (λ o p. ap (λ l. length l) p ∙ taken_length (λ a. is_choose a.ctx) c.as_slice.result.now _ ∙ ap (λ (l : List Action). length l) c.as_slice.ensures) c.own_all.ensures.contexts

pub returns-clause-entry_for_command : goal.returns-clause-entry_for_command
returns-clause-entry_for_command c =
    IfOk-weaker c.own_all.result _ _
    (λ o p. ap (λ l. length l) p ∙ taken_length is_adding (all_commands c.as_slice.result.now) _ ∙ ap (λ (l : List Action). length (all_commands l)) c.as_slice.ensures) c.own_all.ensures.slots

pub returns-clause-paired : goal.returns-clause-paired
returns-clause-paired c =
    if_both c.own_all.result _ _ _
    (λ o p q. own_paired (maps_of c.args.tables.now) c.args.request.now.actions c.as_slice.result.now c.as_slice.ensures (value_of c.self.inside) c.args.self.now c.self.view_is o.contexts o.slots p q)
    c.own_all.ensures.contexts c.own_all.ensures.slots

pub returns-clause-contexts : goal.returns-clause-contexts
returns-clause-contexts c =
    IfOk-weaker c.own_all.result _ _
    (λ o p. own_contexts (maps_of c.args.tables.now) c.args.request.now.actions c.as_slice.result.now c.as_slice.ensures (value_of c.self.inside) c.args.self.now c.self.view_is o.contexts p) c.own_all.ensures.contexts

pub returns-clause-owned_slots : goal.returns-clause-owned_slots
returns-clause-owned_slots c =
    IfOk-weaker c.own_all.result _ _
    (λ o p. own_slots (maps_of c.args.tables.now) c.args.request.now.actions c.as_slice.result.now c.as_slice.ensures (value_of c.self.inside) c.args.self.now c.self.view_is o.slots p) c.own_all.ensures.slots

pub returns-clause-cursors : goal.returns-clause-cursors
returns-clause-cursors c =
    if_both c.own_all.result _ _ _
    (λ o p q. own_cursors (maps_of c.args.tables.now) c.args.request.now.actions c.as_slice.result.now c.as_slice.ensures (value_of c.self.inside) c.args.self.now c.self.view_is c.args.request.now refl c.own_all.new.number_search.cursor c.own_all.new.slot_search.cursor p q)
    c.own_all.ensures.number_cursor c.own_all.ensures.slot_cursor
