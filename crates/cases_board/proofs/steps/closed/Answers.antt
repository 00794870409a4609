use Rattle.std.proofs.Common.{◌≡◌, List, Option, Some, sym, ap, subst, ◌∙◌}
use Rattle.std.specs.Prelude.{slice_get}
use Rattle.gw_board.specs.Boards.{Handed, after_end, with_result, unchanged}
use Rattle.cases_board.specs.Held.{AreHeld, job_in}
use Rattle.cases_board.proofs.Holding.{held_closed, held_returned, same_closed, same_returned}
use Rattle.cases_board.proofs.steps.closed.Goals as goal

pub returns-in-Ok-clause-held : goal.returns-in-Ok-clause-held
returns-in-Ok-clause-held c =
    let kept : job_in (slice_get c.args.held.now.items c.args.place) ≡ Some c.in-Some.job = sym c.taken.ensures.job ∙ c.in-Some.is in
    let is : c.close.new.self ≡ with_result c.args.board.now c.in-Some.job = c.close.ensures.board ∙ ap (after_end c.args.board.now) c.new.ensures in
    subst (λ (l : List (Option Handed)). AreHeld c.close.new.self l) (sym c.taken.ensures.gone)
    (held_closed c.args.board.now c.close.new.self c.args.place c.in-Some.job c.args.held.now.items c.requires kept is)

pub returns-in-Err-clause-held : goal.returns-in-Err-clause-held
returns-in-Err-clause-held c =
    let kept : job_in (slice_get c.args.held.now.items c.args.place) ≡ Some c.in-Some.job = sym c.taken.ensures.job ∙ c.in-Some.is in
    let is : c.close-in-Err.new.self ≡ unchanged c.args.board.now c.in-Some.job = c.close-in-Err.ensures.board ∙ ap (after_end c.args.board.now) c.unchanged.ensures in
    subst (λ (l : List (Option Handed)). AreHeld c.close-in-Err.new.self l) (sym c.taken.ensures.gone)
    (held_returned c.args.board.now c.close-in-Err.new.self c.args.place c.in-Some.job c.args.held.now.items c.requires kept is)

pub returns-in-Ok-clause-same : goal.returns-in-Ok-clause-same
returns-in-Ok-clause-same c =
    let kept : job_in (slice_get c.args.held.now.items c.args.place) ≡ Some c.in-Some.job = sym c.taken.ensures.job ∙ c.in-Some.is in
    same_closed c.args.board.now c.close.new.self c.args.place c.in-Some.job c.args.held.now.items c.requires kept (c.close.ensures.board ∙ ap (after_end c.args.board.now) c.new.ensures)

pub returns-in-Err-clause-same : goal.returns-in-Err-clause-same
returns-in-Err-clause-same c =
    let kept : job_in (slice_get c.args.held.now.items c.args.place) ≡ Some c.in-Some.job = sym c.taken.ensures.job ∙ c.in-Some.is in
    same_returned c.args.board.now c.close-in-Err.new.self c.args.place c.in-Some.job c.args.held.now.items c.requires kept (c.close-in-Err.ensures.board ∙ ap (after_end c.args.board.now) c.unchanged.ensures)
