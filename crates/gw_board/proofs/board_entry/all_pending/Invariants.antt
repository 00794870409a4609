use Rattle.std.proofs.Common.{◌≡◌, map, vec_len}
use Rattle.gw_board.specs.BoardEntries.{place_of}
use Rattle.gw_board.proofs.BoardEntryFacts.{front_pending}
use Rattle.gw_board.proofs.board_entry.all_pending.Given as goal

-- the places so far are pending
abbrev pub invariant-loop-place : goal.invariant-loop-place
invariant-loop-place l = record {
  places : map place_of l.board_entries.items ≡ front_pending l.place (map place_of l.initial.board_entries.items);
  len : vec_len l.board_entries ≡ vec_len l.initial.board_entries;
}
