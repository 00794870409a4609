use Rattle.std.proofs.Common.{◌≡◌, ℕ, List, Option, Ok, [], sym, ap, ◌∙◌}
use Rattle.gw_base.specs.declared.ids.CtxNum.{CtxNum}
use Rattle.gw_reply.specs.declared.writer.ReplyWriter.{ReplyWriter}
use Rattle.gw_reply.specs.declared.writer.ReplyWriter.TheVariants as writer
use Rattle.gw_reply.specs.Writers.{written_behind}
use Rattle.gw_msg.specs.declared.message.Action.{Action}
use Rattle.gw_reply.specs.declared.reply.ActionReply.{ActionReply}
use Rattle.gw_reply.specs.declared.reply.TxReply.{TxReply}
use Rattle.gw_reply.specs.Replies.{action_reply_text}
use Rattle.gw_table.specs.declared.attempts.Attempts.{Attempts}
use Rattle.gw_table.specs.Maps.{Outcome}
use Rattle.gw_reserve.specs.Owned.{paired_actions}
use Rattle.gw_tx.specs.Transactions.{actions, paired_transaction}
use Rattle.gw_tx.proofs.requests.transaction.Goals as goal

-- the replies of a list
abbrev listed : ReplyWriter ActionReply → List ActionReply
listed (writer.All replies) = replies
listed (writer.Within text room) = []
listed writer.TooLong = []

pub returns : goal.returns
unfolding paired_transaction
returns c =
    let on : List (Option CtxNum) → List (Option ℕ) → List Action → Outcome (Attempts Unit ActionReply) = λ n s a. actions c.args.rules.now (paired_actions n s a) c.args.draft.now.maps in
    let same : on c.as_slice.result.now c.as_slice-2.result.now c.as_slice-3.result.now ≡ on c.args.owned.now.contexts c.args.owned.now.slots c.args.request.now.actions =
    ap (λ (l : List (Option CtxNum)). on l c.as_slice-2.result.now c.as_slice-3.result.now) c.as_slice.ensures
    ∙ ap (λ (l : List (Option ℕ)). on c.args.owned.now.contexts l c.as_slice-3.result.now) c.as_slice-2.ensures
    ∙ ap (λ (l : List Action). on c.args.owned.now.contexts c.args.owned.now.slots l) c.as_slice-3.ensures in
    let reply : List ActionReply → TxReply = λ l. record { id = c.args.request.now.id; result = Ok l } in
    let all : List ActionReply = (on c.as_slice.result.now c.as_slice-2.result.now c.as_slice-3.result.now).answer.answers in
    let written : writer.All c.in-All.replies ≡ writer.All all =
    sym c.in-All.is ∙ c.in_ok-written.ensures.answer ∙ ap (λ (l : List ActionReply). written_behind action_reply_text (writer.All l) all) c.new.ensures in
    record {
      maps = c.in_ok-written.ensures.maps ∙ ap (λ (o : Outcome (Attempts Unit ActionReply)). o.maps) same;
      answer = ap (λ (t : ReplyWriter ActionReply). reply (listed t)) written ∙ ap (λ (o : Outcome (Attempts Unit ActionReply)). reply o.answer.answers) same;
      keys = c.in_ok-written.ensures.keys;
    }
