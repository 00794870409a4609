use Rattle.gw_kept.proofs.Changed.{named_is_gone, other_stays}
use Rattle.gw_kept.proofs.laws.what_is_acknowledged_is_not_kept.Goals as goal

pub returns-clause-named : goal.returns-clause-named
returns-clause-named c = λ k r key named. named_is_gone r key k.pairs named

pub returns-clause-other : goal.returns-clause-other
returns-clause-other c = λ k r key named. other_stays r key k.pairs named
