use Rattle.gw_engine.proofs.Phases.{phased_answers, phased_state, phased_new}
use Rattle.gw_engine.proofs.laws.bursts_go_in_phases.Goals as goal

pub returns-clause-answers : goal.returns-clause-answers
returns-clause-answers c = phased_answers

pub returns-clause-state : goal.returns-clause-state
returns-clause-state c = phased_state

pub returns-clause-new : goal.returns-clause-new
returns-clause-new c = phased_new
