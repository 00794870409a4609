use Rattle.std.proofs.Common.{◌≡◌, ◌≤◌, ◌-◌, map, take}
use Rattle.std.specs.Prelude.{vec_len}
use Rattle.gw_table.specs.Stored.{Stored}
use Rattle.gw_board.specs.Alone.{AreSameBeside}
use Rattle.gw_board.specs.BoardEntries.{place_of}
use Rattle.gw_board.specs.Boards.{requested_in, AllClosed}
use Rattle.gw_board.specs.GoingOn.{MayGoOn}
use Rattle.gw_board.proofs.alone.carry_range.Given as goal

-- the stretches so far are closed, and the rest may be executed from the draft's maps on
abbrev pub invariant-loop-first : goal.invariant-loop-first
invariant-loop-first g l = record {
  from : l.places.start ≤ l.first;
  within : l.first ≤ l.places.end;
  over : l.draft.keys ≡ l.fn.draft.keys;
  goes_on : (start : Stored) → MayGoOn l.profile start l.fn.draft.maps (map place_of l.fn.board_entries.items) → MayGoOn l.profile start l.draft.maps (map place_of l.board_entries.items);
  closed : AllClosed (take l.first (map place_of l.board_entries.items));
  beside : AreSameBeside l.places.start l.places.end (map place_of l.fn.board_entries.items) (map place_of l.board_entries.items);
  requested : requested_in (map place_of l.board_entries.items) ≡ requested_in (map place_of l.fn.board_entries.items);
  len : vec_len l.board_entries ≡ vec_len l.fn.board_entries;
}

abbrev pub decreases-loop-first : goal.decreases-loop-first
decreases-loop-first g l = l.places.end - l.first
