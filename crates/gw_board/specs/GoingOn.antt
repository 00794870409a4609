-- Places that are executed one after another on a draft (own): nothing is open, and the draft has the maps that those
-- left that are closed.
use Rattle.std.specs.Prelude.{◌≡◌, false, List}
use Rattle.std.specs.List.{list_any}
use Rattle.gw_board.specs.declared.profile.Profile.{Profile}
use Rattle.gw_table.specs.Maps.{Maps}
use Rattle.gw_table.specs.Stored.{Stored}
use Rattle.gw_board.specs.BoardView.{IsOnTheWay}
use Rattle.gw_board.specs.Core.{Place}
use Rattle.gw_board.specs.UndoLog.{UndoStep}
use Rattle.gw_board.specs.Results.{is_open}

-- a board with these places and maps, and with some undo log, is on the way from the maps where it began
pub record MayGoOn (profile : Profile) (start : Stored) (maps : Maps) (places : List Place) : Type 0 where
  pub undo_log : List UndoStep
  pub way : IsOnTheWay (record { profile = profile; start = start; maps = maps; places = places; undo_log = undo_log })
  pub none : list_any (λ p. is_open p.standing) places ≡ false
