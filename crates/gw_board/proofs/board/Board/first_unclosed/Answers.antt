use Rattle.std.proofs.Common.{◌≡◌, ◌+◌, ℕ, take, Some, sym, subst, add-one, arith, ◌∙◌}
use Rattle.std.specs.Prelude.{slice_get}
use Rattle.gw_board.specs.BoardView.{value_of}
use Rattle.gw_board.specs.Boards.{Seen, AllClosed}
use Rattle.gw_board.specs.BoardEntries.{place_of}
use Rattle.gw_board.proofs.CarriedAlone.{closed_here, unclosed_pends}
use Rattle.gw_board.proofs.BoardEntryFacts.{seat_place}
use Rattle.gw_board.proofs.board.Board.first_unclosed.Goals as goal

pub returns-then-not-is_closed-clause-pends : goal.returns-then-not-is_closed-clause-pends
returns-then-not-is_closed-clause-pends c = grind (arith, seat_place, unclosed_pends)

pub loop-place-preserved : goal.loop-place-preserved
loop-place-preserved c =
    let b : Seen = value_of c.self.inside in
    let i : ℕ = c.loop-place.place in
    let below = c.loop-place-test.true in
    let count = c.len-place-end.ensures in
    let here : slice_get b.places i ≡ Some (place_of c.index.result.now) = seat_place c.self.inside.board_entries.items i c.index.result.now (omega arith) c.index.ensures in
    let before : AllClosed (take i b.places) = subst (λ (x : Seen). AllClosed (take i x.places)) (sym c.self.view_is) c.loop-place.invariant in
    subst (λ (x : Seen). AllClosed (take (i + 1) x.places)) c.self.view_is
    (subst (λ (n : ℕ). AllClosed (take n b.places)) (sym (add-one i))
    (closed_here b.places i (place_of c.index.result.now) here (sym c.is_closed.ensures ∙ c.if-not-is_closed.false) before))
