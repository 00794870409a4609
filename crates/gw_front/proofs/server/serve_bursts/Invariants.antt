use Rattle.std.proofs.Common.{◌≡◌, []}
use Rattle.gw_front.specs.Inboxes.{Holds}
use Rattle.gw_front.proofs.Served.{IsPartway}
use Rattle.gw_front.proofs.server.serve_bursts.Given as goal

abbrev pub invariant-loop : goal.invariant-loop
invariant-loop g l = record {
  can_next : (goal.iterator-loop g).can_next l.iterator';
  is_finite : (goal.iterator-loop g).is_finite l.iterator';
  partway : IsPartway l.initial.server.options l.left (g.S.Exchange.course l.initial.exchange)
      (g.S.Exchange.course l.exchange) l.initial.gateway l.gateway l.server.totals;
  options : l.server.options ≡ l.initial.server.options;
  holds : Holds l.server.inbox [];
  senders : l.server.inbox.senders.items ≡ [];
}
