use Rattle.std.proofs.Common.{subst}
use Rattle.gw_board.specs.BoardView.{value_of}
use Rattle.gw_board.specs.Boards.{Seen, GivesTheFold}
use Rattle.gw_board.proofs.OnTheWay.{gives_the_fold}
use Rattle.gw_board.proofs.board.Board.carry_rest.Goals as goal

pub returns-in-None-clause-outcome : goal.returns-in-None-clause-outcome
returns-in-None-clause-outcome g c = subst (λ (x : Seen). GivesTheFold x) c.self.view_is (gives_the_fold (value_of c.self.inside) c.self.invariant.on_the_way)
