use Rattle.std.proofs.Common.{take}
use Rattle.gw_board.specs.Boards.{AllClosed}
use Rattle.gw_board.proofs.board.Board.first_unclosed.Given as goal

-- the places so far are closed
abbrev pub invariant-loop-place : goal.invariant-loop-place
invariant-loop-place l = AllClosed (take l.place l.self.places)
