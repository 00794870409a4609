use Rattle.std.proofs.Common.{◌≡◌, ◌+◌, ◌-◌, ℕ, suc, cond, List, [], ◌∷◌, ◌++◌, filter, length, Some, sym, ap, subst, ◌∙◌, add-one, append-nil, arith}
use Rattle.std.specs.List.{range_with_len}
use Rattle.std.specs.Prelude.{slice_get}
use Rattle.gw_board.specs.BoardView.{value_of}
use Rattle.gw_board.specs.Boards.{Seen, core_of}
use Rattle.gw_board.specs.Core.{Place}
use Rattle.gw_board.specs.BoardEntries.{place_of}
use Rattle.gw_board.specs.declared.board_entry.BoardEntry.{BoardEntry}
use Rattle.gw_board.proofs.Planning.{free_at, AreThose, place_more, those_more, free_is, none_behind, filter_end}
use Rattle.gw_board.proofs.BoardEntryFacts.{length-places, seat_place}
use Rattle.gw_board.proofs.board.Board.plan.Goals as goal
use Rattle.gw_board.proofs.board.Board.plan.Goals.{then-is_free+in_ok-push, else-is_free}

pub loop-at-preserved : goal.loop-at-preserved
loop-at-preserved c =
    let s : Seen = c.args.self.now in
    let b : Seen = value_of c.self.inside in
    let i : ℕ = c.loop-at.at in
    let items : List BoardEntry = c.self.inside.board_entries.items in
    let board_entry : BoardEntry = c.index-board_entry.result.now in
    let p : Place = place_of board_entry in
    let below = c.loop-at-test.true in
    let end = c.len-at-end.ensures in
    let count : length s.places ≡ length items = ap (λ (x : Seen). length x.places) (sym c.self.view_is) ∙ length-places items in
    let here : slice_get b.places i ≡ Some p = seat_place items i board_entry (omega arith) c.index-board_entry.ensures in
    let those : AreThose (core_of b) i c.loop-at.waiting = subst (λ (x : Seen). AreThose (core_of x) i c.loop-at.waiting) (sym c.self.view_is) c.loop-at.invariant.waiting in
    let free : c.in_ok-is_free.is_free ≡ free_at (core_of s) i =
    free_is (core_of b) i p c.loop-at.waiting c.in_ok-is_free.is_free here those c.in_ok-is_free.ensures.free
    ∙ ap (λ (x : Seen). free_at (core_of x) i) c.self.view_is in
    let later : AreThose (core_of b) (suc i) c.join_waiting.new.waiting = those_more (core_of b) i p c.loop-at.waiting c.join_waiting.new.waiting here those c.in_ok-is_free.ensures.waiting in
    let more : c.if-is_free.places.items ≡ c.loop-at.places.items ++ cond c.in_ok-is_free.is_free (i ∷ []) [] = elim c.if-is_free.branch [
      | then-is_free+in_ok-push w ↦ ap (λ v. v.items) w.places-is ∙ w.in_ok-push.ensures.items ∙ ap (λ t. c.loop-at.places.items ++ cond t (i ∷ []) []) (sym w.if-is_free.true)
      | else-is_free w ↦ ap (λ v. v.items) w.places-is ∙ sym (append-nil c.loop-at.places.items) ∙ ap (λ t. c.loop-at.places.items ++ cond t (i ∷ []) []) (sym w.if-is_free.false)
    ] in
    record {
      places = place_more (core_of s) i c.in_ok-is_free.is_free c.loop-at.places.items c.if-is_free.places.items free c.loop-at.invariant.places more;
      waiting = subst (λ (n : ℕ). AreThose (core_of s) n c.join_waiting.new.waiting) (sym (add-one i))
          (subst (λ (x : Seen). AreThose (core_of x) (suc i) c.join_waiting.new.waiting) c.self.view_is later);
      within = omega arith;
    }

pub returns-then-is_whole : goal.returns-then-is_whole
returns-then-is_whole c =
    let s : Seen = c.args.self.now in
    let i : ℕ = c.loop-at.at in
    let n : ℕ = length s.places in
    let within = c.loop-at.invariant.within in
    let all : i + (n - i) ≡ n = omega arith in
    c.loop-at.invariant.places
    ∙ sym (filter_end (free_at (core_of s)) i (n - i) (λ k l m. none_behind (core_of s) i c.loop-at.waiting c.loop-at.invariant.waiting (sym c.is_whole.ensures ∙ c.if-is_whole.true) k l))
    ∙ ap (λ k. filter (free_at (core_of s)) (range_with_len 0 k)) all

pub returns : goal.returns
returns c =
    let s : Seen = c.args.self.now in
    let count : length s.places ≡ length c.self.inside.board_entries.items = ap (λ (x : Seen). length x.places) (sym c.self.view_is) ∙ length-places c.self.inside.board_entries.items in
    let within = c.loop-at.invariant.within in
    let past = c.loop-at-test.false in
    let end = c.len-at-end.ensures in
    let all : c.loop-at.at ≡ length s.places = omega arith in
    c.loop-at.invariant.places ∙ ap (λ k. filter (free_at (core_of s)) (range_with_len 0 k)) all
