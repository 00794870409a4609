use Rattle.gw_reply.specs.Messages.{reply_text}
use Rattle.gw_reply_law.proofs.PartFits.{reply_is}
use Rattle.gw_reply_law.proofs.ReplyFits.{is_read}
use Rattle.gw_tx.specs.Transactions.{transaction}
use Rattle.gw_tx.proofs.Requested.{request_asked}
use Rattle.gw_tx.proofs.FormsKept.{transaction_kept, transaction_id}
use Rattle.gw_tx.proofs.laws.answers_can_be_read.Goals as goal

pub returns-clause-requested : goal.returns-clause-requested
returns-clause-requested c = request_asked

pub returns-clause-kept : goal.returns-clause-kept
returns-clause-kept c = λ rules r ids m address slots requested k. (transaction_kept rules address r ids m slots requested k).0

pub returns-clause-message : goal.returns-clause-message
returns-clause-message c = λ mid rules r ids m is address slots requested k. transaction_id rules mid r ids m (reply_is mid (transaction rules r ids m).answer is (transaction_kept rules address r ids m slots requested k).1)

pub returns-clause-read : goal.returns-clause-read
returns-clause-read c = λ mid rules r ids m is address slots requested k.
    is_read mid (transaction rules r ids m).answer.id.0 (reply_text mid (transaction rules r ids m).answer) (reply_is mid (transaction rules r ids m).answer is (transaction_kept rules address r ids m slots requested k).1)
