use Rattle.std.proofs.Common.{◌≡◌, []}
use Rattle.gw_front.specs.Inboxes.{Gathers}
use Rattle.gw_front.specs.Servers.{HasSame}
use Rattle.gw_front.proofs.server.Server.next_burst.Given as goal

-- nothing was taken yet
abbrev pub invariant-loop : goal.invariant-loop
invariant-loop g l = record {
  can_next : (goal.iterator-loop g).can_next l.iterator';
  is_finite : (goal.iterator-loop g).is_finite l.iterator';
  gathered : Gathers l.initial.self.options.controllers.now (g.S.Exchange.course l.initial.exchange)
      (g.S.Exchange.course l.exchange) l.initial.self.inbox l.self.inbox;
  senders : l.self.inbox.senders.items ≡ [];
  same : HasSame l.initial.self l.self;
}
