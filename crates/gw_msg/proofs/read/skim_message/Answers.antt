use Rattle.gw_msg.proofs.Whole.{reading}
use Rattle.gw_msg.proofs.read.skim_message.Goals as goal

pub returns : goal.returns
returns c = reading c.args.text.now c.answer.result c.answer.ensures
