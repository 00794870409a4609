use Rattle.gw_cmd.proofs.ForAll.{whole_is_key}
use Rattle.gw_cmd.proofs.laws.the_whole_is_a_key_of_commands_for_all.Goals as goal

pub returns : goal.returns
returns c = whole_is_key
