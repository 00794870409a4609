use Rattle.std.proofs.Common.{◌≡◌, ℕ, ◌+◌, List, ◌∷◌, ◌++◌, drop, ap, sym, ◌∙◌}
use Rattle.gw_base.specs.Choose.{is_choose}
use Rattle.gw_msg.specs.declared.message.Action.{Action}
use Rattle.gw_msg.specs.declared.message.Command.{Command}
use Rattle.gw_table.proofs.Folding.{rest_of}
use Rattle.gw_reserve.specs.Owned.{is_adding}
use Rattle.gw_reserve.specs.Owners.{all_commands, last_number, behind_last}
use Rattle.gw_reserve.proofs.Choices.{numbers_move, slots_move}
use Rattle.gw_reserve.proofs.Taken.{take_one, take_some}
use Rattle.gw_reserve.proofs.owners.own_all.Goals as goal

pub loop-action-preserved : goal.loop-action-preserved
loop-action-preserved c =
    let it : Action = c.action-item.result in
    let i : ℕ = c.loop-action.action-index in
    let rest : List Action = drop (i + 1) c.args.actions.now in
    let split : drop i c.args.actions.now ≡ it ∷ rest = rest_of c.args.actions.now i it it c.loop-action-test.true c.action-item.is in
    let theirs : all_commands (drop i c.args.actions.now) ≡ c.as_slice-commands.result.now ++ all_commands rest =
    ap (λ (l : List Action). all_commands l) split ∙ ap (λ (l : List Command). l ++ all_commands rest) (sym c.as_slice-commands.ensures) in
    record {
      contexts = take_one (λ a. is_choose a.ctx) last_number numbers_move _ _ _ _ it c.number_for.result _ _ _ _ _ _ _ split c.in_ok-push.ensures.ok c.number_for.ensures.value c.number_for.ensures.rest c.number_for.ensures.cursor c.loop-action.invariant.contexts;
      slots = take_some is_adding behind_last slots_move _ _ _ _ _ _ _ _ _ _ _ _ theirs c.in_ok-own_slots.ensures.slots c.in_ok-own_slots.ensures.rest c.in_ok-own_slots.ensures.cursor c.loop-action.invariant.slots;
      number_search = c.number_for.ensures.search;
      slot_search = c.in_ok-own_slots.ensures.search;
    }
