-- Where the replies to the new requests of a burst are (own): on the board, until they are kept.
use Rattle.std.specs.Prelude.{List, [], ◌∷◌}
use Rattle.gw_board.specs.Boards.{Seen, requested_in}
use Rattle.gw_board.specs.Carried.{carried}
use Rattle.gw_board.specs.Texts.{Text}
use Rattle.gw_board.specs.declared.requested.BurstRequest.{BurstRequest}
use Rattle.gw_kept.specs.declared.entry.Entry.{Entry}
use Rattle.gw_table.specs.Stored.{maps_of}

-- the texts that all requests of a board come to
abbrev pub board_texts : Seen → List Text
board_texts b = (carried b.profile (requested_in b.places) (maps_of b.start)).answer

-- the pair of each request and its text
abbrev pub entries_with : List BurstRequest → List Text → List Entry
entries_with [] texts = []
entries_with (a ∷ more) [] = []
entries_with (a ∷ more) (t ∷ texts) = record { mid = a.mid; id = a.request.id; bytes = t } ∷ entries_with more texts
