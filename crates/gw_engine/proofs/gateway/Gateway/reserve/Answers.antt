use Rattle.std.proofs.Common.{◌≡◌, ℕ, ◌+◌, ◌++◌, List, drop, ap, subst, ◌∙◌}
use Rattle.std.specs.Option.{option_to_list}
use Rattle.gw_reserve.specs.Reservations.{Reserving, begun}
use Rattle.gw_table.proofs.Folding.{rest_of}
use Rattle.gw_engine.specs.declared.items.BurstItem.{BurstItem}
use Rattle.gw_engine.specs.declared.items.Sent.{Sent}
use Rattle.gw_engine.specs.Bursts.{cursors_of}
use Rattle.gw_engine.specs.GatewayView.{value_of}
use Rattle.gw_engine.specs.Phases.{new_for, new_in}
use Rattle.gw_engine.specs.State.{GatewayValue}
use Rattle.gw_engine.proofs.Reserving.{IsReserving, begins, item_on}
use Rattle.gw_engine.proofs.gateway.Gateway.reserve.Goals as goal

pub loop-item-init : goal.loop-item-init
loop-item-init c =
    let g : GatewayValue = value_of c.self.inside in
    let v : Reserving = c.new-reservation.result in
    let all : List Sent = new_in c.args.items.now in
    let is : v ≡ begun g.settings.contexts g.settings.slots (cursors_of g.state) = c.new-reservation.ensures in
    record {
      contexts = ap (λ (r : Reserving). r.most_contexts) is ∙ ap (λ (h : GatewayValue). h.settings.contexts) c.self.view_is;
      slots = ap (λ (r : Reserving). r.most_slots) is ∙ ap (λ (h : GatewayValue). h.settings.slots) c.self.view_is;
      owns = subst (λ (h : GatewayValue). IsReserving h all all v c.from-jobs.result) c.self.view_is
          (begins g v all c.from-jobs.result is (c.from-jobs.ensures ∙ c.in_ok-with_capacity.ensures.items));
    }

pub loop-item-preserved : goal.loop-item-preserved
loop-item-preserved c =
    let items : List BurstItem = c.args.items.now in
    let i : ℕ = c.loop-item.item-index in
    let x : BurstItem = c.item-item.result in
    let rest : List BurstItem = drop (i + 1) items in
    let split : new_in (drop i items) ≡ option_to_list (new_for x.content x.class) ++ new_in rest = ap new_in (rest_of items i x x c.loop-item-test.true c.item-item.is) in
    let done = c.in_ok-push_job.ensures in
    record {
      contexts = done.contexts ∙ c.loop-item.invariant.contexts;
      slots = done.slots ∙ c.loop-item.invariant.slots;
      owns = item_on c.args.self.now (new_in items) (new_in (drop i items)) (new_in rest) (new_for x.content x.class) c.loop-item.reservation c.push_job.new.reservation c.loop-item.jobs c.push_job.new.jobs split c.loop-item.invariant.owns done.jobs;
    }
