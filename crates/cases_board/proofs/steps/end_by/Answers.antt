use Rattle.std.proofs.Common.{sym, ◌∙◌}
use Rattle.cases_board.proofs.Holding.{nothing_open}
use Rattle.cases_board.proofs.steps.end_by.Goals as goal

pub returns-then-is_none_held : goal.returns-then-is_none_held
returns-then-is_none_held c =
    nothing_open c.args.board.now c.args.held.now c.requires (sym c.is_none_held.ensures ∙ c.if-is_none_held.true)
