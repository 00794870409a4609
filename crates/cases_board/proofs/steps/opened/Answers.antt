use Rattle.std.proofs.Common.{List, Option, sym, subst}
use Rattle.gw_board.specs.Boards.{Handed}
use Rattle.cases_board.specs.Held.{AreHeld}
use Rattle.cases_board.proofs.Holding.{held_opened, same_opened}
use Rattle.cases_board.proofs.steps.opened.Goals as goal

pub returns-clause-held : goal.returns-clause-held
returns-clause-held c =
    subst (λ (l : List (Option Handed)). AreHeld c.open.new.self l) (sym c.hold.ensures)
    (held_opened c.args.board.now c.open.new.self c.args.place c.in_ok-job.job c.in_ok-job.ensures.job c.args.held.now.items c.requires)

pub returns-clause-same : goal.returns-clause-same
returns-clause-same c = same_opened c.args.board.now c.open.new.self c.args.place c.in_ok-job.job c.in_ok-job.ensures.job c.args.held.now.items c.requires
