use Rattle.gw_tx.proofs.RequestKeys.{command_alone, whole_key}
use Rattle.gw_tx.proofs.laws.keys_of_requests.Goals as goal

pub returns-clause-command : goal.returns-clause-command
returns-clause-command c = command_alone

pub returns-clause-whole : goal.returns-clause-whole
returns-clause-whole c = whole_key
