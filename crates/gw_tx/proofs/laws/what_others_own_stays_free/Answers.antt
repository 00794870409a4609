use Rattle.gw_tx.proofs.Unowned.{slot_free, number_free}
use Rattle.gw_tx.proofs.laws.what_others_own_stays_free.Goals as goal

pub returns-clause-slots : goal.returns-clause-slots
returns-clause-slots c = slot_free

pub returns-clause-numbers : goal.returns-clause-numbers
returns-clause-numbers c = number_free
