use Rattle.gw_foot.proofs.WithOthers.{keys_stay, requests_change}
use Rattle.gw_foot.proofs.laws.requests_on_other_keys_change_places.Goals as goal

pub returns-clause-keys : goal.returns-clause-keys
returns-clause-keys c = keys_stay

pub returns-clause-places : goal.returns-clause-places
returns-clause-places c = requests_change
