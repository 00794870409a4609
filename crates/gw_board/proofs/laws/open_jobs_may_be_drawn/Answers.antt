use Rattle.gw_board.proofs.Drawing.{open_listed, may_draw}
use Rattle.gw_board.proofs.laws.open_jobs_may_be_drawn.Goals as goal

pub returns-clause-listed : goal.returns-clause-listed
returns-clause-listed c = open_listed

pub returns-clause-drawn : goal.returns-clause-drawn
returns-clause-drawn c = may_draw
