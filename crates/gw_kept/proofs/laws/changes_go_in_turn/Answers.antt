use Rattle.gw_kept.proofs.Changed.{one_more_after, few_after, most_after}
use Rattle.gw_kept.proofs.laws.changes_go_in_turn.Goals as goal

pub returns-clause-turn : goal.returns-clause-turn
returns-clause-turn c = one_more_after

pub returns-clause-few : goal.returns-clause-few
returns-clause-few c = few_after

pub returns-clause-most : goal.returns-clause-most
returns-clause-most c = most_after
