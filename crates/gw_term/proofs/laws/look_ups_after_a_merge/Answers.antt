use Rattle.gw_term.proofs.StreamsFound.{found_after}
use Rattle.gw_term.proofs.TooLong.{nothing_merged}
use Rattle.gw_term.proofs.laws.look_ups_after_a_merge.Goals as goal

pub returns-clause-found : goal.returns-clause-found
returns-clause-found c = found_after

pub returns-clause-none : goal.returns-clause-none
returns-clause-none c = nothing_merged
