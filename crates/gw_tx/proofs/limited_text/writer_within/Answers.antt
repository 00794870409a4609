use Rattle.std.proofs.Common.{◌+◌, ℕ, List, ap, ◌∙◌}
use Rattle.gw_reply.specs.Lists.{later}
use Rattle.gw_reply.specs.Replies.{action_reply_text}
use Rattle.gw_reply.specs.Writers.{written_within}
use Rattle.gw_tx.specs.LimitedText.{limited_text_of}
use Rattle.gw_tx.proofs.Limits.{framed}
use Rattle.gw_tx.proofs.limited_text.writer_within.Goals as goal

pub returns-in-Some-clause-written : goal.returns-in-Some-clause-written
returns-in-Some-clause-written c = λ replies.
    ap (λ (l : List ℕ). limited_text_of (written_within l (later action_reply_text replies) (c.in-Some.left + 1))) c.clear.ensures
    ∙ framed c.args.id replies c.in-Some.left c.args.limit c.in-Some.ensures.room
