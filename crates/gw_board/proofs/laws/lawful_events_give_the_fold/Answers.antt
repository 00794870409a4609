use Rattle.std.proofs.Common.{sym, ◌∙◌}
use Rattle.gw_board.specs.Core.{Core}
use Rattle.gw_board.specs.Endings.{all_ended}
use Rattle.gw_board.proofs.Comes.{results_are, nothing_open, all_closed}
use Rattle.gw_board.proofs.Ending.{Ends, all_end, joined}
use Rattle.gw_board.proofs.laws.lawful_events_give_the_fold.Goals as goal

pub returns-clause-results : goal.returns-clause-results
returns-clause-results c = results_are

pub returns-clause-nothing_open : goal.returns-clause-nothing_open
returns-clause-nothing_open c = λ profile workers requested m s w u events none. sym (nothing_open profile s none) ∙ results_are profile workers requested m s w u events

pub returns-clause-all_closed : goal.returns-clause-all_closed
returns-clause-all_closed c = λ profile workers requested m s w u events replies closed. sym (all_closed profile s replies closed) ∙ results_are profile workers requested m s w u events

pub returns-clause-all_ended : goal.returns-clause-all_ended
returns-clause-all_ended c = λ profile workers requested m s w u events choice.
    let end : Core = all_ended choice s in
    let e : Ends profile s end = all_end profile choice s in
    sym (nothing_open profile end e.shut) ∙ results_are profile workers requested m end w u (joined events e.events)
