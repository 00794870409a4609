use Rattle.std.proofs.Common.{◌≡◌, false, map, take}
use Rattle.gw_table.specs.Stored.{maps_of}
use Rattle.gw_board.specs.Core.{meets_any}
use Rattle.gw_board.specs.BoardEntries.{place_of}
use Rattle.gw_board.proofs.open.first_met.Given as goal

abbrev pub invariant-loop-at : goal.invariant-loop-at
invariant-loop-at l = meets_any l.keys (maps_of l.tables) (take l.at (map place_of l.board_entries)) ≡ false
