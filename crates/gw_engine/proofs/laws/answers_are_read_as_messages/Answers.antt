use Rattle.gw_reply_law.proofs.ReplyFits.{is_read}
use Rattle.gw_engine.proofs.ErrorsRead.{error_is_read}
use Rattle.gw_engine.proofs.laws.answers_are_read_as_messages.Goals as goal

pub returns-clause-reply : goal.returns-clause-reply
returns-clause-reply c = is_read

pub returns-clause-error : goal.returns-clause-error
returns-clause-error c = error_is_read
