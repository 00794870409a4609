use Rattle.gw_front.proofs.OneFault.{bursts_one}
use Rattle.gw_front.proofs.replay_laws.bursts_are_one.Goals as goal

pub returns : goal.returns
returns c = bursts_one
