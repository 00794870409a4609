use Rattle.gw_board.specs.Boards.{IsSameBurst}
use Rattle.cases_board.specs.Held.{AreHeld}
use Rattle.cases_board.proofs.steps.carry_wave.Given as goal

abbrev pub invariant-loop-place : goal.invariant-loop-place
invariant-loop-place l = record { held : AreHeld l.board l.held.items; same : IsSameBurst l.fn.board l.board }

abbrev pub invariant-loop-place-2 : goal.invariant-loop-place-2
invariant-loop-place-2 l = record { held : AreHeld l.board l.held.items; same : IsSameBurst l.fn.board l.board }
