use Rattle.std.proofs.Common.{◌≡◌, map, length, sym, ap, subst, ◌∙◌, arith}
use Rattle.gw_table.specs.Stored.{maps_of}
use Rattle.gw_board.specs.BoardView.{IsOnTheWay, IsKeptIn}
use Rattle.gw_board.specs.Boards.{begun_board, GivesTheFold, unclosed}
use Rattle.gw_board.specs.BoardEntries.{place_of}
use Rattle.gw_board.proofs.KeptIn.{begun_kept}
use Rattle.gw_board.proofs.OnTheWay.{begun_way, gives_the_fold}
use Rattle.gw_board.proofs.BoardEntryFacts.{unclosed-pending, length-places, length-pending}
use Rattle.gw_board.proofs.Spare.{begun_spare}
use Rattle.gw_board.proofs.board.Board.new.Goals as goal
use Rattle.gw_board.proofs.board.Board.new.Goals.{After-of-start}

is_begun : (c : After-of-start) → record { profile = c.args.profile; start = c.of-start.result.value; maps = maps_of c.args.tables; places = map place_of c.in-Ok.board_entries.items; undo_log = c.in-Ok-with_capacity.undo_log.items } ≡ begun_board c.args.profile c.args.requested.now c.args.tables
is_begun c = grind arith

way : (c : After-of-start) → IsOnTheWay (begun_board c.args.profile c.args.requested.now c.args.tables)
way c = begun_way c.args.profile c.args.requested.now c.args.tables c.requires.whole c.requires.unused

pub invariant_of-result : goal.invariant_of-result
invariant_of-result c =
    let n = c.in-Ok-with_capacity.ensures.len in
    let m = c.in-Ok-with_capacity.ensures.capacity in
    let o = c.in-Ok-with_capacity-2.ensures.capacity in
    let open_ones : unclosed (map place_of c.in-Ok.board_entries.items) ≡ length c.args.requested.now = ap unclosed c.in-Ok.ensures ∙ unclosed-pending c.args.requested.now in
    let count : length c.in-Ok.board_entries.items ≡ length c.args.requested.now = sym (length-places c.in-Ok.board_entries.items) ∙ ap length c.in-Ok.ensures ∙ length-pending c.args.requested.now in
    let s = c.in-Ok.board_entries.ok.0 in
    record {
      on_the_way = subst IsOnTheWay (sym (is_begun c)) (way c);
      kept = subst (IsKeptIn c.args.tables) (sym (is_begun c)) (begun_kept c.args.profile c.args.requested.now c.args.tables c.args.tables c.requires.here);
      room = record { undo_log = omega arith; all = omega arith; replies = omega arith; no_replies = c.in-Ok-with_capacity-2.ensures.items };
      spare = λ e. begun_spare c.of-start.result.value c.args.tables c.in-Ok-with_capacity.undo_log.items (map place_of c.in-Ok.board_entries.items) c.of-start.ensures;
    }

pub returns-clause-outcome : goal.returns-clause-outcome
returns-clause-outcome c = subst GivesTheFold (sym (is_begun c)) (gives_the_fold (begun_board c.args.profile c.args.requested.now c.args.tables) (way c))
