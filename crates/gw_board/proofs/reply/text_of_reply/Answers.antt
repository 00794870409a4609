use Rattle.std.proofs.Common.{ℕ, List, sym, ap, ◌∙◌}
use Rattle.gw_base.specs.declared.ids.TxId.{TxId}
use Rattle.gw_reply.specs.Messages.{message_text, too_long, reply_text}
use Rattle.gw_reply.specs.Replies.{framed_reply}
use Rattle.gw_board.proofs.ToldTexts.{told_is, too_long_is}
use Rattle.gw_board.proofs.reply.text_of_reply.Goals as goal

pub returns-in_ok-write_reply-in-TooLong : goal.returns-in_ok-write_reply-in-TooLong
returns-in_ok-write_reply-in-TooLong c = λ reply limited_text same.
    c.from-in-TooLong.ensures ∙ c.in_ok-write_reply-in-TooLong.ensures.text
    ∙ ap (λ (id : TxId). reply_text c.args.mid.now (too_long id)) (sym same)
    ∙ too_long_is c.args.mid.now reply (sym c.in-TooLong.is ∙ limited_text)

pub returns-in_ok-text-in-Whole : goal.returns-in_ok-text-in-Whole
returns-in_ok-text-in-Whole c = λ reply limited_text same.
    c.from.ensures ∙ c.in_ok-text-in-Whole.ensures
    ∙ ap (λ (text : List ℕ). message_text c.args.mid.now (framed_reply c.args.id text)) c.as_slice.ensures
    ∙ ap (λ (id : TxId). message_text c.args.mid.now (framed_reply id c.in-Whole.actions)) (sym same)
    ∙ told_is c.args.mid.now c.in-Whole.actions reply (sym c.in-Whole.is ∙ limited_text)
