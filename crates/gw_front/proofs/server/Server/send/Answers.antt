use Rattle.std.proofs.Common.{◌∙◌, ◌∷◌, [], subst}
use Rattle.gw_front.specs.Events.{sent_all, Happens}
use Rattle.gw_front.specs.Serving.{packets_to}
use Rattle.gw_front.specs.declared.inbox.Inbox.{Inbox}
use Rattle.gw_front.proofs.Gathering.{HasSame-trans}
use Rattle.gw_front.proofs.Outgoing.{sent_more}
use Rattle.gw_front.proofs.server.Server.send.Goals as goal

pub loop-answer-preserved : goal.loop-answer-preserved
loop-answer-preserved g c = record {
  inbox = c.send_one.ensures.inbox ∙ c.loop-answer.invariant.inbox;
  same = HasSame-trans c.loop-answer.invariant.same c.send_one.ensures.same;
  sent = sent_more (g.S.Exchange.course c.args.exchange.now) (g.S.Exchange.course c.loop-answer.exchange)
      (g.S.Exchange.course c.send_one.new.exchange) c.args.self.now.inbox.senders.items c.args.answers.now
      c.loop-answer.answer-index c.answer-item.result
      c.loop-answer-test.true c.answer-item.is c.loop-answer.invariant.sent
      (subst (λ (i : Inbox). Happens (g.S.Exchange.course c.loop-answer.exchange)
      (g.S.Exchange.course c.send_one.new.exchange)
      (sent_all (packets_to i.senders.items (c.answer-item.result ∷ [])))) c.loop-answer.invariant.inbox
      c.send_one.ensures.sent);
}
