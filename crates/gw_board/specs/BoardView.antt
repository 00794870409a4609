-- How the fields of a board are seen, and what holds of them (own).
use Rattle.std.specs.Prelude.{◌≡◌, ◌+◌, ◌≤◌, ◌&&◌, true, false, List, [], map, vec_len, vec_capacity}
use Rattle.gw_base.specs.declared.key.Key.{Key}
use Rattle.gw_base.specs.Keys.{has}
use Rattle.gw_table.specs.Stored.{Stored, maps_of, is_ready, is_out, has_entry, names_entry, AreReady, AreSwept}
use Rattle.gw_table.specs.Unused.{AreUnused}
use Rattle.gw_table.specs.WellFormed.{AreWellFormed}
use Rattle.gw_board.specs.declared.board.Board.TheInside.{Inside}
use Rattle.gw_board.specs.Boards.{Seen, core_of, requested_in, unclosed}
use Rattle.gw_board.specs.Carried.{carried}
use Rattle.gw_board.specs.Fitting.{Each, out, FitsTogether}
use Rattle.gw_board.specs.Core.{Place}
use Rattle.gw_board.specs.UndoLog.{UndoStep, is_logged, undone}
use Rattle.gw_board.specs.Results.{carried_on, slots_of}
use Rattle.gw_board.specs.BoardEntries.{place_of}

abbrev pub value_of : Inside → Seen
value_of a = record {
  profile = a.profile;
  start = a.start.value;
  maps = maps_of a.tables;
  places = map place_of a.board_entries.items;
  undo_log = a.undo_log.items;
}

-- the maps that it was given are well-formed, and what the requests own is unused in them
pub record IsBegun (b : Seen) : Type 0 where
  pub well : AreWellFormed b.profile.rules.members (maps_of b.start)
  pub unused : AreUnused (maps_of b.start) [] (slots_of (requested_in b.places))

-- There are whole maps from which what is out is missing; executing on them what is not closed comes to what the
-- requests come to on the maps that the board was given; and the undo steps lead from them back to those maps.
pub record IsOnTheWay (b : Seen) : Type 0 where
  pub begun : IsBegun b
  pub fits : FitsTogether b.profile (core_of b)
  pub outcome : carried_on b.profile b.places fits.whole ≡ carried b.profile (requested_in b.places) (maps_of b.start)
  pub back : undone b.undo_log fits.whole ≡ (maps_of b.start)

-- the entries that are out are those of open jobs, and there are places for the keys of all undo steps
pub record IsKeptIn (tables : Stored) (b : Seen) : Type 0 where
  pub out : (k : Key) → is_out tables k ≡ (has (out b.places) k && names_entry k)
  pub ready : Each (λ o. AreReady o.keys tables) b.undo_log

-- Where each prepared key had an entry at the start, each that is prepared now has one, but for keys of the undo log and
-- of open jobs.
abbrev pub NoneIsSpare : (start tables : Stored) → List UndoStep → List Place → Type 0
NoneIsSpare start tables undo_log places =
    AreSwept start → (k : Key) → is_logged undo_log k ≡ false → has (out places) k ≡ false → is_ready tables k ≡ true → has_entry (maps_of tables) k ≡ true

-- there is room for an undo step of each place that is not closed, and were it of each place, and for a reply of each
-- place
pub record HasRoom (a : Inside) : Type 0 where
  pub undo_log : vec_len a.undo_log + unclosed (map place_of a.board_entries.items) ≤ vec_capacity a.undo_log
  pub all : vec_len a.board_entries ≤ vec_capacity a.undo_log
  pub replies : vec_len a.board_entries ≤ vec_capacity a.replies
  pub no_replies : a.replies.items ≡ []

pub record IsBoard (a : Inside) : Type 0 where
  pub on_the_way : IsOnTheWay (value_of a)
  pub kept : IsKeptIn a.tables (value_of a)
  pub room : HasRoom a
  pub spare : a.sweeps_all ≡ false → NoneIsSpare a.start.value a.tables a.undo_log.items (map place_of a.board_entries.items)
