use Rattle.gw_board.proofs.Comes.{fits_on, comes_to_the_same}
use Rattle.gw_board.proofs.Steps.{kept_start}
use Rattle.gw_board.proofs.laws.events_leave_what_a_state_comes_to.Goals as goal

pub returns-clause-start : goal.returns-clause-start
returns-clause-start c = kept_start

pub returns-clause-fits : goal.returns-clause-fits
returns-clause-fits c = fits_on

pub returns-clause-result : goal.returns-clause-result
returns-clause-result c = comes_to_the_same
