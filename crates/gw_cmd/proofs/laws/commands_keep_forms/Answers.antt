use Rattle.gw_cmd.proofs.FormsKept.{command_kept}
use Rattle.gw_cmd.proofs.laws.commands_keep_forms.Goals as goal

pub returns : goal.returns
returns c = λ rules at slot requested m address small good k. command_kept rules address at slot requested m small good k
