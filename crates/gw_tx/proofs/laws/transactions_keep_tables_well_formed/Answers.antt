use Rattle.gw_tx.proofs.Unowned.{transaction_whole}
use Rattle.gw_tx.proofs.laws.transactions_keep_tables_well_formed.Goals as goal

pub returns : goal.returns
returns c = transaction_whole
