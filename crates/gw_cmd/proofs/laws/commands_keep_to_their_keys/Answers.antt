use Rattle.gw_cmd.proofs.Locality.{command_keeps}
use Rattle.gw_cmd.proofs.laws.commands_keep_to_their_keys.Goals as goal

pub returns : goal.returns
returns c = command_keeps
