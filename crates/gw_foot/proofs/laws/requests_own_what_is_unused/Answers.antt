use Rattle.gw_foot.proofs.StillUnused.{still_unused}
use Rattle.gw_foot.proofs.WithOthers.{ids_unused, ids_paired}
use Rattle.gw_foot.proofs.laws.requests_own_what_is_unused.Goals as goal

pub returns-clause-choices : goal.returns-clause-choices
returns-clause-choices c = ids_unused

pub returns-clause-same : goal.returns-clause-same
returns-clause-same c = ids_paired

pub returns-clause-others : goal.returns-clause-others
returns-clause-others c = still_unused
