use Rattle.std.proofs.Common.{◌≡◌, ◌≤◌, filter, length}
use Rattle.std.specs.List.{range_with_len}
use Rattle.gw_board.specs.Boards.{core_of}
use Rattle.gw_board.proofs.Planning.{free_at, AreThose}
use Rattle.gw_board.proofs.board.Board.plan.Given as goal

-- the wave as far as it is known, and the earlier pending places
abbrev pub invariant-loop-at : goal.invariant-loop-at
invariant-loop-at l = record {
  places : l.places.items ≡ filter (free_at (core_of l.self)) (range_with_len 0 l.at);
  waiting : AreThose (core_of l.self) l.at l.waiting;
  within : l.at ≤ length l.self.places;
}
