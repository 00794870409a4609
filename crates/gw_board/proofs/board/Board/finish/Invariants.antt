use Rattle.std.proofs.Common.{◌≡◌, ◌+◌, ◌≤◌, [], length, map, vec_len}
use Rattle.std.specs.Prelude.{vec_capacity}
use Rattle.gw_board.specs.Boards.{AllClosed}
use Rattle.gw_board.specs.BoardEntries.{place_of}
use Rattle.gw_board.proofs.BoardEntryFacts.{told_as}
use Rattle.gw_board.proofs.board.Board.finish.Given as goal

-- the replies so far and the places that are left are those that there were; these are closed, and there is room for their replies
abbrev pub invariant-loop-board_entry : goal.invariant-loop-board_entry
invariant-loop-board_entry l = record {
  limited_text : told_as l.replies.items l.board_entry-iterator.rest.items ≡ told_as [] l.initial.board_entry-iterator.rest.items;
  closed : AllClosed (map place_of l.board_entry-iterator.rest.items);
  room : vec_len l.replies + length l.board_entry-iterator.rest.items ≤ vec_capacity l.replies;
}
