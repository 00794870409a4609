use Rattle.gw_kept.proofs.Changed.{distinct_after}
use Rattle.gw_kept.proofs.Repeats.{next_is_new}
use Rattle.gw_kept.proofs.laws.new_pairs_have_keys_of_their_own.Goals as goal

pub returns-clause-distinct : goal.returns-clause-distinct
returns-clause-distinct c = distinct_after

pub returns-clause-new : goal.returns-clause-new
returns-clause-new c = next_is_new
