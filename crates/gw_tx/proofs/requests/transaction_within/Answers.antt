use Rattle.std.proofs.Common.{◌≡◌, ℕ, List, Option, Ok, ap, ◌∙◌}
use Rattle.gw_base.specs.declared.ids.CtxNum.{CtxNum}
use Rattle.gw_reply.specs.declared.writer.ReplyWriter.{ReplyWriter}
use Rattle.gw_msg.specs.declared.message.Action.{Action}
use Rattle.gw_reply.specs.declared.reply.ActionReply.{ActionReply}
use Rattle.gw_reply.specs.declared.reply.TxReply.{TxReply}
use Rattle.gw_table.specs.declared.attempts.Attempts.{Attempts}
use Rattle.gw_table.specs.Maps.{Outcome}
use Rattle.gw_reserve.specs.Owned.{paired_actions}
use Rattle.gw_tx.specs.LimitedText.{limited_text_of, within}
use Rattle.gw_tx.specs.Transactions.{actions, paired_transaction}
use Rattle.gw_tx.proofs.requests.transaction_within.Goals as goal

pub returns : goal.returns
unfolding paired_transaction
returns c =
    let on : List (Option CtxNum) → List (Option ℕ) → List Action → Outcome (Attempts Unit ActionReply) = λ n s a. actions c.args.rules.now (paired_actions n s a) c.args.draft.now.maps in
    let same : on c.as_slice.result.now c.as_slice-2.result.now c.as_slice-3.result.now ≡ on c.args.owned.now.contexts c.args.owned.now.slots c.args.request.now.actions =
    ap (λ (l : List (Option CtxNum)). on l c.as_slice-2.result.now c.as_slice-3.result.now) c.as_slice.ensures
    ∙ ap (λ (l : List (Option ℕ)). on c.args.owned.now.contexts l c.as_slice-3.result.now) c.as_slice-2.ensures
    ∙ ap (λ (l : List Action). on c.args.owned.now.contexts c.args.owned.now.slots l) c.as_slice-3.ensures in
    let reply : List ActionReply → TxReply = λ l. record { id = c.args.request.now.id; result = Ok l } in
    let all : List ActionReply = (on c.as_slice.result.now c.as_slice-2.result.now c.as_slice-3.result.now).answer.answers in
    record {
      maps = c.in_ok-written.ensures.maps ∙ ap (λ (o : Outcome (Attempts Unit ActionReply)). o.maps) same;
      answer = c.limited_text_of.ensures ∙ ap (λ (t : ReplyWriter ActionReply). limited_text_of t) c.in_ok-written.ensures.answer ∙ c.writer_within.ensures.written all
          ∙ ap (λ (o : Outcome (Attempts Unit ActionReply)). within c.args.limit (reply o.answer.answers)) same;
      keys = c.in_ok-written.ensures.keys;
    }
