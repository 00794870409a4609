use Rattle.std.proofs.Common.{map, take}
use Rattle.std.specs.List.{AllZip}
use Rattle.gw_table.specs.Stored.{maps_of}
use Rattle.gw_board.specs.BoardEntries.{place_of}
use Rattle.gw_board.specs.Stretches.{HasItsKeys}
use Rattle.gw_board.proofs.chains.footprints_of.Given as goal

-- these are the keys of the places so far
abbrev pub invariant-loop-board_entry : goal.invariant-loop-board_entry
invariant-loop-board_entry l = AllZip (HasItsKeys (maps_of l.tables)) (map place_of (take l.board_entry-index l.stretch)) l.footprints.items
