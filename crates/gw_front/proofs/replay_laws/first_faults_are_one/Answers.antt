use Rattle.gw_front.proofs.OneFault.{faults_one, bursts_or_fault}
use Rattle.gw_front.proofs.replay_laws.first_faults_are_one.Goals as goal

pub returns-clause-one : goal.returns-clause-one
returns-clause-one c = faults_one

pub returns-clause-none : goal.returns-clause-none
returns-clause-none c = bursts_or_fault
