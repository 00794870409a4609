use Rattle.std.proofs.Common.{◌≡◌, map, take}
use Rattle.gw_board.specs.Core.{pending}
use Rattle.gw_board.specs.BoardEntries.{place_of}
use Rattle.gw_board.proofs.board_entry.board_entries_of.Given as goal

abbrev pub invariant-loop-one : goal.invariant-loop-one
invariant-loop-one l = map place_of l.board_entries.items ≡ map pending (take l.one-index l.requested)
