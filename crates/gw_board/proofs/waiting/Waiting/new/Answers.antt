use Rattle.std.proofs.Common.{false, refl}
use Rattle.gw_board.proofs.Waits.{none_waits}
use Rattle.gw_board.proofs.waiting.Waiting.new.Goals as goal

pub returns : goal.returns
returns c = none_waits (record { terms = c.new.result; contexts = c.new-2.result; is_any = false; is_whole = false }) c.new.ensures.empty c.new-2.ensures.empty refl refl
