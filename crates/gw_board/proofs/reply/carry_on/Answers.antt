use Rattle.std.proofs.Common.{◌≡◌, sym, ap, ◌∙◌}
use Rattle.gw_msg.specs.declared.message.Request.{Request}
use Rattle.gw_reply.specs.declared.reply.TxReply.{TxReply}
use Rattle.gw_reserve.specs.Owned.{paired}
use Rattle.gw_table.specs.Maps.{Maps}
use Rattle.gw_tx.specs.LimitedText.{within}
use Rattle.gw_tx.specs.Transactions.{paired_transaction}
use Rattle.gw_board.specs.Carried.{BurstRequest}
use Rattle.gw_board.specs.Limits.{reply_limit}
use Rattle.gw_board.proofs.ToldTexts.{same_id}
use Rattle.gw_board.proofs.reply.carry_on.Goals as goal

pub returns-clause-reply : goal.returns-clause-reply
returns-clause-reply c =
    let rules = c.args.profile.now.rules in
    let a : BurstRequest = c.args.requested.now in
    let m : Maps = c.args.draft.now.maps in
    let request : c.in_ok-request.request.now ≡ a.request = c.in_ok-request.ensures in
    let reply : TxReply = (paired_transaction rules a.request (paired a.request a.owned) m).answer in
    let limited_text : c.in_ok-limited_text.limited_text ≡ within (reply_limit c.args.profile.now.mid) reply =
    c.in_ok-limited_text.ensures.answer
    ∙ (λ i. within (c.reply_limit-limit.ensures i) (paired_transaction rules (request i) (paired (request i) a.owned) m).answer) in
    let same : reply.id ≡ c.in_ok-request.request.now.id = same_id rules a.request (paired a.request a.owned) m ∙ ap (λ (r : Request). r.id) (sym request) in
    c.in_ok-text.ensures reply limited_text same
