use Rattle.std.proofs.Common.{◌≡◌, ◌≤◌, map, take, drop}
use Rattle.std.specs.Prelude.{vec_len}
use Rattle.std.specs.Vec.Iter.{into_iter_items}
use Rattle.gw_board.specs.declared.profile.Profile.{Profile}
use Rattle.gw_table.specs.Maps.{Maps}
use Rattle.gw_table.specs.Stored.{Stored}
use Rattle.gw_board.specs.Alone.{AreSameBeside}
use Rattle.gw_board.specs.BoardEntries.{place_of}
use Rattle.gw_board.specs.Boards.{requested_in, AllClosed}
use Rattle.gw_board.specs.Carried.{carried}
use Rattle.gw_board.specs.Chained.{AreTexts}
use Rattle.gw_board.specs.Chains.{requests_of}
use Rattle.gw_board.specs.GoingOn.{MayGoOn}
use Rattle.gw_board.specs.Stretches.{chained}
use Rattle.gw_board.proofs.ClosedInChains.{AreLeft, rest_at}
use Rattle.gw_board.proofs.side_by_side.close_chained.Given as goal

-- the places so far are closed, and of each chain the texts of the rest are left
abbrev pub invariant-loop-place : goal.invariant-loop-place
invariant-loop-place l =
    let first = l.fn.places.start in
    let old = map place_of l.fn.board_entries.items in
    let new = map place_of l.board_entries.items in
    record {
      from : first ≤ l.place;
      left : (profile : Profile) (start : Stored) (m : Maps) → MayGoOn profile start m old → AreTexts profile (chained l.numbers (drop first old)) m (map into_iter_items l.fn.texts.items)
          → AreLeft profile start (carried profile (requests_of (chained l.numbers (drop first old))) m).maps (rest_at l.numbers first new l.place) new (map into_iter_items l.texts.items);
      closed : AllClosed (take l.place new);
      beside : AreSameBeside first l.fn.places.end old new;
      requested : requested_in new ≡ requested_in old;
      len : vec_len l.board_entries ≡ vec_len l.fn.board_entries;
      chains : vec_len l.texts ≡ vec_len l.fn.texts;
    }
