use Rattle.gw_cmd.proofs.Locality.{commands_change}
use Rattle.gw_cmd.proofs.laws.commands_on_other_keys_change_places.Goals as goal

pub returns : goal.returns
returns c = commands_change
