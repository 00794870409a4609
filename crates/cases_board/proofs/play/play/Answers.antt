use Rattle.cases_board.proofs.Holding.{held_begun}
use Rattle.cases_board.proofs.play.play.Goals as goal

pub walk-requires : goal.walk-requires
walk-requires c =
    held_begun c.args.profile c.args.requested.now c.args.tables c.in-Ok.board c.in-Ok-none_held.held.items
    c.in-Ok.ensures.board c.in-Ok-none_held.ensures.none c.in-Ok-none_held.ensures.count
