use Rattle.gw_board.proofs.LeftOut.{left_out, first_is_in}
use Rattle.gw_board.proofs.Together.{wave_may_open}
use Rattle.gw_board.proofs.laws.waves_may_be_opened.Goals as goal

pub returns-clause-lawful : goal.returns-clause-lawful
returns-clause-lawful c = wave_may_open

pub returns-clause-left_out : goal.returns-clause-left_out
returns-clause-left_out c = left_out

pub returns-clause-first : goal.returns-clause-first
returns-clause-first c = first_is_in
