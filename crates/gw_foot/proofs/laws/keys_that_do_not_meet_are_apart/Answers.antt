use Rattle.gw_foot.proofs.Meetings.{apart_if, apart_only}
use Rattle.gw_foot.proofs.laws.keys_that_do_not_meet_are_apart.Goals as goal

pub returns-clause-apart : goal.returns-clause-apart
returns-clause-apart c = apart_if

pub returns-clause-only : goal.returns-clause-only
returns-clause-only c = apart_only
