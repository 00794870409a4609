use Rattle.std.proofs.Common.{◌≡◌, length, sym, ap, ◌∙◌, arith}
use Rattle.std.specs.Prelude.{option_copied}
use Rattle.gw_engine.specs.Replies.{board_texts}
use Rattle.gw_engine.proofs.BoardTexts.{one_more, none_left}
use Rattle.gw_engine.proofs.answers.replies_of.Goals as goal

pub loop-reply-preserved : goal.loop-reply-preserved
loop-reply-preserved c =
    let at : c.len.result ≡ length c.loop-reply.replies.items = omega (arith, c.len.ensures, c.loop-reply.replies.ok) in
    one_more (board_texts c.args.board.now) c.loop-reply.replies.items c.len.result at c.loop-reply.invariant c.in-Some.reply c.push.new.self.items
    (sym (c.reply_at.ensures.all c.requires) ∙ ap option_copied c.in-Some.is) c.in_ok-push.ensures.items

pub returns : goal.returns
returns c =
    let at : c.len.result ≡ length c.loop-reply.replies.items = omega (arith, c.len.ensures, c.loop-reply.replies.ok) in
    none_left (board_texts c.args.board.now) c.loop-reply.replies.items c.len.result at c.loop-reply.invariant
    (sym (c.reply_at.ensures.all c.requires) ∙ ap option_copied c.in_default.is)
