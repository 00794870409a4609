use Rattle.gw_desc.proofs.FillChain.{all_reached, all_same}
use Rattle.gw_desc.proofs.FillEnds.{nothing_left}
use Rattle.gw_desc.proofs.FillForms.{step_kept}
use Rattle.gw_desc.proofs.FillKept.{all_kept}
use Rattle.gw_desc.proofs.laws.fills_go_step_by_step.Goals as goal

pub returns-clause-steps : goal.returns-clause-steps
returns-clause-steps c = all_reached

pub returns-clause-left : goal.returns-clause-left
returns-clause-left c = nothing_left

pub returns-clause-none : goal.returns-clause-none
returns-clause-none c = all_same

pub returns-clause-step_keeps : goal.returns-clause-step_keeps
returns-clause-step_keeps c = step_kept

pub returns-clause-keeps : goal.returns-clause-keeps
returns-clause-keeps c = all_kept
