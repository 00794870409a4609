use Rattle.gw_kept.proofs.Repeats.{new_is_not_kept, over_is_not_kept}
use Rattle.gw_kept.proofs.laws.what_is_no_repeat_is_not_kept.Goals as goal

pub returns-clause-new : goal.returns-clause-new
returns-clause-new c = new_is_not_kept

pub returns-clause-over : goal.returns-clause-over
returns-clause-over c = over_is_not_kept
