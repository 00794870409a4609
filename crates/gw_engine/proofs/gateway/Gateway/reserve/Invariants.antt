use Rattle.std.proofs.Common.{◌≡◌, drop}
use Rattle.gw_engine.specs.Phases.{new_in}
use Rattle.gw_engine.proofs.Reserving.{IsReserving}
use Rattle.gw_engine.proofs.gateway.Gateway.reserve.Given as goal

-- with those of the requests that are left, they are all
abbrev pub invariant-loop-item : goal.invariant-loop-item
invariant-loop-item l = record {
  contexts : l.reservation.most_contexts ≡ l.self.settings.contexts;
  slots : l.reservation.most_slots ≡ l.self.settings.slots;
  owns : IsReserving l.self (new_in l.items) (new_in (drop l.item-index l.items)) l.reservation l.jobs;
}
