use Rattle.gw_front.proofs.Served.{executed, dropped}
use Rattle.gw_front.proofs.server.Server.answer_burst.Goals.{in-Ok, in-Err}
use Rattle.gw_front.proofs.server.Server.answer_burst.Goals as goal

pub returns-clause-answered : goal.returns-clause-answered
returns-clause-answered g c = λ packets h.
    elim c.match-run.branch [
      | in-Ok w ↦ rw (w.exchange-is, w.self-is)
          (executed c.args.self.now.inbox packets w.in-Ok.done.answers w.in-Ok.done.counts
          (g.S.Exchange.course c.args.exchange.now) (g.S.Exchange.course w.finish_burst.new.exchange)
          c.args.gateway.now c.run.new.gateway
          c.args.self.now.totals w.finish_burst.new.self.totals h w.in-Ok.ensures.whole c.run.ensures.limits
          w.in-Ok.ensures.answers w.in-Ok.ensures.counts w.finish_burst.ensures.sent w.finish_burst.ensures.totals)
      | in-Err w ↦ rw (w.exchange-is, w.self-is)
          (dropped packets (g.S.Exchange.course c.args.exchange.now) c.args.gateway.now c.run.new.gateway
          c.args.self.now.totals w.drop_burst.new.self.totals w.in-Err.ensures.refused w.drop_burst.ensures.totals)
    ]
