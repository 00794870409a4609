use Rattle.std.proofs.Common.{ℕ, map, sym, ◌∙◌, add-one}
use Rattle.gw_table.specs.Stored.{maps_of}
use Rattle.gw_board.specs.BoardEntries.{place_of}
use Rattle.gw_board.proofs.Alike.{any_more}
use Rattle.gw_board.proofs.BoardEntryFacts.{seat_place}
use Rattle.gw_board.proofs.open.first_met.Goals as goal

pub loop-at-preserved : goal.loop-at-preserved
loop-at-preserved c =
    let i : ℕ = c.loop-at.at in
    let s = c.index-board_entries-at.result in
    rw add-one
    (any_more c.args.keys.now (maps_of c.args.tables.now) (map place_of c.args.board_entries.now) i (place_of s)
    (seat_place c.args.board_entries.now i s c.loop-at-test.true c.index-board_entries-at.is)
    c.loop-at.invariant
    (sym c.in_ok-does_meet.ensures ∙ c.if-branch.false))
