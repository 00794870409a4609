use Rattle.gw_cmd.proofs.Ready.{adds_new}
use Rattle.gw_cmd.proofs.execute.executed.Goals as goal

pub on_slot-requires-clause-adds : goal.on_slot-requires-clause-adds
on_slot-requires-clause-adds c = adds_new c.args.execution.at c.args.prepared.now.command.now c.requires.allowed.0 c.in-Choose.is
