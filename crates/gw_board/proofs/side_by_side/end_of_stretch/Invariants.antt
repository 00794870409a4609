use Rattle.std.proofs.Common.{◌≤◌}
use Rattle.gw_board.proofs.side_by_side.end_of_stretch.Given as goal

abbrev pub invariant-loop-place : goal.invariant-loop-place
invariant-loop-place l = l.places.start ≤ l.place
