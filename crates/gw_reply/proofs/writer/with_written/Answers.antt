use Rattle.std.proofs.Common.{◌≡◌, ℕ, ◌∷◌, IfOk, List, ap, subst, ◌∙◌}
use Rattle.gw_reply.specs.Lists.{comma}
use Rattle.gw_reply.specs.Replies.{framed}
use Rattle.gw_reply.specs.Writers.{written_within}
use Rattle.gw_reply.specs.declared.reply.ActionReply.{ActionReply}
use Rattle.gw_reply.specs.declared.writer.ReplyWriter.{ReplyWriter}
use Rattle.gw_reply.proofs.ActionWriters.{parts_too_long, replies_too_long, written_whole}
use Rattle.gw_reply.proofs.writer.with_written.Goals as goal

pub returns-in_default : goal.returns-in_default
returns-in_default c = λ props done parts replies. parts_too_long c.args.front c.args.room c.args.ctx props done c.args.parts c.in_default.not-Within parts

pub returns-in_default-replies : goal.returns-in_default-replies
returns-in_default-replies c = λ props done parts replies. replies_too_long c.args.front c.args.room c.args.ctx props done c.args.replies c.in_default-replies.not-Within replies

pub returns : goal.returns
returns c = λ props done parts replies.
    let a = c.args in
    subst (λ (t : ReplyWriter ActionReply). IfOk c.with_action.result (λ all. all ≡ t))
    (ap (λ (front : List ℕ). written_within front (comma ∷ framed a.ctx c.in_ok-joined.field-0) a.room) c.front.view_is
    ∙ ap (λ (inner : List ℕ). written_within a.front (comma ∷ framed a.ctx inner) a.room) c.in_ok-joined.ensures
    ∙ written_whole a.front a.room a.ctx props done c.in-Within.parts c.in-Within-replies.replies c.in-Within.field-1 c.in-Within-replies.field-1 a.parts a.replies c.in-Within.is c.in-Within-replies.is parts replies)
    c.with_action.ensures
