use Rattle.std.proofs.Common.{◌∙◌, [], ap, rules, subst, sym}
use Rattle.std.proofs.lemmas.Result.{err_from_is_err_and}
use Rattle.gw_front.specs.Inboxes.{Holds}
use Rattle.gw_front.specs.declared.inbox.Inbox.{Inbox}
use Rattle.gw_front.specs.declared.totals.Totals.{Totals}
use Rattle.gw_front.proofs.Served.{IsPartway, next_none, next_some, server_stepped, server_overfull}
use Rattle.gw_front.proofs.server.serve_bursts.Goals.{in-None-left, in-Some-left}
use Rattle.gw_front.proofs.server.serve_bursts.Goals as goal

pub loop-preserved : goal.loop-preserved
loop-preserved g c = record {
  can_next = tt;
  is_finite = tt;
  partway = subst (λ (t : Totals). IsPartway c.args.server.now.options c.match-left.left
      (g.S.Exchange.course c.args.exchange.now) (g.S.Exchange.course c.answer_burst.new.exchange) c.args.gateway.now
      c.answer_burst.new.gateway t) (sym c.report.ensures.same.totals)
      (server_stepped c.args.server.now c.answer_burst.new.self (g.S.Exchange.course c.answer_burst.new.exchange)
      c.answer_burst.new.gateway c.loop.invariant.options c.next_burst.ensures.same c.answer_burst.ensures.options
      c.loop.invariant.partway
      (elim c.match-left.branch [
        | in-None-left w ↦ next_none c.loop.left c.match-left.left w.in-None-left.is w.left-is
        | in-Some-left w ↦ next_some c.loop.left c.match-left.left w.in-Some-left.count w.in-Some-left.is w.left-is
            (search rules)
      ])
      c.loop.invariant.holds c.next_burst.ensures.gathered c.in_ok-next_burst.ensures.some
      c.answer_burst.ensures.answered c.in_ok-answer_burst.ensures.ok);
  options = c.report.ensures.same.options ∙ c.answer_burst.ensures.options ∙ c.next_burst.ensures.same.options
      ∙ c.loop.invariant.options;
  holds = subst (λ (i : Inbox). Holds i []) (sym c.report.ensures.inbox) c.answer_burst.ensures.holds;
  senders = ap (λ (i : Inbox). i.senders.items) c.report.ensures.inbox ∙ c.answer_burst.ensures.senders;
}

pub returns-in_err-answer_burst-clause-served : goal.returns-in_err-answer_burst-clause-served
returns-in_err-answer_burst-clause-served g c =
    let p = err_from_is_err_and c.from_residual-in_err-answer_burst.result
    c.from_residual-in_err-answer_burst.ensures.1 in
    rw (p.1, p.2)
    (server_overfull c.args.server.now c.answer_burst.new.self (g.S.Exchange.course c.answer_burst.new.exchange)
    c.answer_burst.new.gateway {next = c.match-left.left} c.loop.invariant.options c.next_burst.ensures.same
    c.answer_burst.ensures.options c.loop.invariant.partway
    (elim c.match-left.branch [
      | in-None-left w ↦ next_none c.loop.left c.match-left.left w.in-None-left.is w.left-is
      | in-Some-left w ↦ next_some c.loop.left c.match-left.left w.in-Some-left.count w.in-Some-left.is w.left-is
          (search rules)
    ])
    c.loop.invariant.holds c.next_burst.ensures.gathered c.in_ok-next_burst.ensures.some c.answer_burst.ensures.answered
    c.in_err-answer_burst.field-0.0 c.in_err-answer_burst.ensures.fault.0 c.in_err-answer_burst.ensures.fault.1)
