use Rattle.gw_board.proofs.InTurn.{each_of_wave, each_later, not_refused}
use Rattle.gw_board.proofs.laws.planned_places_are_opened.Goals as goal

pub returns-clause-wave : goal.returns-clause-wave
returns-clause-wave c = each_of_wave

pub returns-clause-next : goal.returns-clause-next
returns-clause-next c = each_later

pub returns-clause-refused : goal.returns-clause-refused
returns-clause-refused c = not_refused
