use Rattle.cases_board.specs.Held.{AreHeld}
use Rattle.cases_board.proofs.play.walk.Given as goal

abbrev pub invariant-loop-step : goal.invariant-loop-step
invariant-loop-step l = AreHeld l.board l.held.items
