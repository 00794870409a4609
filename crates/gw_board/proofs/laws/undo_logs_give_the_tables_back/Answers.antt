use Rattle.gw_board.proofs.Comes.{undone_is}
use Rattle.gw_board.proofs.laws.undo_logs_give_the_tables_back.Goals as goal

pub returns : goal.returns
returns c = undone_is
