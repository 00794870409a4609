use Rattle.gw_cmd.proofs.Needed.{needs_context, needs_termination, needs_moved}
use Rattle.gw_cmd.proofs.laws.keys_are_needed.Goals as goal

pub returns-clause-context : goal.returns-clause-context
returns-clause-context c = needs_context

pub returns-clause-termination : goal.returns-clause-termination
returns-clause-termination c = needs_termination

pub returns-clause-moved : goal.returns-clause-moved
returns-clause-moved c = needs_moved
