use Rattle.gw_kept.proofs.Bursts.{then_acknowledged, then_new}
use Rattle.gw_kept.proofs.laws.classes_go_in_turn.Goals as goal

pub returns-clause-acknowledged : goal.returns-clause-acknowledged
returns-clause-acknowledged c = then_acknowledged

pub returns-clause-new : goal.returns-clause-new
returns-clause-new c = then_new
