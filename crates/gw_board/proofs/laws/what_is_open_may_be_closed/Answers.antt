use Rattle.gw_board.specs.Endings.{all_ended}
use Rattle.gw_board.proofs.Ending.{Ends, all_end}
use Rattle.gw_board.proofs.laws.what_is_open_may_be_closed.Goals as goal

pub returns : goal.returns
returns c = λ profile choice s. let e : Ends profile s (all_ended choice s) = all_end profile choice s in (e.events, e.shut)
