use Rattle.gw_reserve.proofs.Fresh.{are_fresh, free_unused}
use Rattle.gw_reserve.proofs.laws.what_is_owned_is_fresh.Goals as goal

pub returns-clause-owned : goal.returns-clause-owned
returns-clause-owned c = are_fresh

pub returns-clause-free : goal.returns-clause-free
returns-clause-free c = free_unused
