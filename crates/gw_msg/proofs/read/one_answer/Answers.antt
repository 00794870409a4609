use Rattle.gw_msg.proofs.Whole.{its_answer, no_memory, only, version_answer}
use Rattle.gw_msg.proofs.read.one_answer.Goals as goal

pub returns-clause-answer : goal.returns-clause-answer
returns-clause-answer c = its_answer

pub returns-clause-memory : goal.returns-clause-memory
returns-clause-memory c = no_memory

pub returns-clause-only : goal.returns-clause-only
returns-clause-only c = only

pub returns-clause-version : goal.returns-clause-version
returns-clause-version c = version_answer
