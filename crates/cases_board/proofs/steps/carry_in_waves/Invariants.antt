use Rattle.gw_board.specs.Boards.{IsSameBurst}
use Rattle.cases_board.specs.Held.{AreHeld}
use Rattle.cases_board.proofs.steps.carry_in_waves.Given as goal

abbrev pub invariant-loop-wave : goal.invariant-loop-wave
invariant-loop-wave l = record { held : AreHeld l.board l.held.items; same : IsSameBurst l.fn.board l.board }
