use Rattle.gw_reply.specs.Messages.{reply_text}
use Rattle.gw_reply_law.proofs.PartFits.{reply_is}
use Rattle.gw_reply_law.proofs.ReplyFits.{is_spelled, is_read}
use Rattle.gw_reply_law.proofs.replies_are_messages.Goals as goal

pub returns-clause-message : goal.returns-clause-message
returns-clause-message c = reply_is

pub returns-clause-spelled : goal.returns-clause-spelled
returns-clause-spelled c = λ mid reply m h. is_spelled mid reply.id.0 (reply_text mid reply) (reply_is mid reply m h)

pub returns-clause-read : goal.returns-clause-read
returns-clause-read c = λ mid reply m h. is_read mid reply.id.0 (reply_text mid reply) (reply_is mid reply m h)
