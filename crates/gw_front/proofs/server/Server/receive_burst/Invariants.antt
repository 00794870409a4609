use Rattle.std.proofs.Common.{◌≤◌, ◌+◌, length}
use Rattle.gw_front.specs.Inboxes.{Gathers}
use Rattle.gw_front.specs.Servers.{HasSame}
use Rattle.gw_front.proofs.server.Server.receive_burst.Given as goal

-- the burst in hand has room for as many as are still taken
abbrev pub invariant-loop-room : goal.invariant-loop-room
invariant-loop-room g l = record {
  gathered : Gathers l.initial.self.options.controllers.now (g.S.Exchange.course l.initial.exchange)
      (g.S.Exchange.course l.exchange) l.initial.self.inbox l.self.inbox;
  same : HasSame l.initial.self l.self;
  few : length l.self.inbox.senders.items + l.room ≤ 256;
}

-- each receipt takes one of the room or of the patience
abbrev pub decreases-loop-room : goal.decreases-loop-room
decreases-loop-room g l = l.room + l.patience
