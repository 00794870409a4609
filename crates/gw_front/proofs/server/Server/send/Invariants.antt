use Rattle.std.proofs.Common.{◌≡◌, take}
use Rattle.gw_front.specs.Events.{sent_all, Happens}
use Rattle.gw_front.specs.Serving.{packets_to}
use Rattle.gw_front.specs.Servers.{HasSame}
use Rattle.gw_front.proofs.server.Server.send.Given as goal

-- the answers so far were sent
abbrev pub invariant-loop-answer : goal.invariant-loop-answer
invariant-loop-answer g l = record {
  inbox : l.self.inbox ≡ l.initial.self.inbox;
  same : HasSame l.initial.self l.self;
  sent : Happens (g.S.Exchange.course l.initial.exchange) (g.S.Exchange.course l.exchange)
      (sent_all (packets_to l.initial.self.inbox.senders.items (take l.answer-index l.answers)));
}
