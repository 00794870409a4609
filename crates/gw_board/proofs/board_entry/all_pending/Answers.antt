use Rattle.std.proofs.Common.{◌≡◌, ℕ, ◌<◌, List, map, length, sym, ap, ◌∙◌, add-one, arith}
use Rattle.std.specs.Prelude.{slice_get, slice_set}
use Rattle.gw_board.specs.Boards.{requested_in}
use Rattle.gw_board.specs.Core.{Place, pending}
use Rattle.gw_board.specs.BoardEntries.{place_of}
use Rattle.gw_board.proofs.OnTheWay.{requested-pending}
use Rattle.gw_board.proofs.BoardEntryFacts.{front_pending, next_pending, all_are_pending, place_there, length-places}
use Rattle.gw_board.proofs.board_entry.all_pending.Goals as goal

pub loop-place-preserved : goal.loop-place-preserved
loop-place-preserved c =
    let i : ℕ = c.loop-place.place in
    let now : List Place = map place_of c.loop-place.board_entries.items in
    let start : List Place = map place_of c.args.board_entries.now.items in
    let inside : i < length now =
    let count : length now ≡ length c.loop-place.board_entries.items = length-places c.loop-place.board_entries.items in
    let below = c.loop-place-test.true in
    let end = c.len-place-end.ensures in
    let same = c.loop-place.invariant.len in
    let own = c.loop-place.board_entries.ok.0 in
    omega arith in
    let there = place_there now i inside in
    let are : now ≡ front_pending i start = c.loop-place.invariant.places in
    record {
      places =
          c.set_stage.ensures.places there.0 there.1
          ∙ ap (λ (l : List Place). slice_set l i (pending there.0.requested)) are
          ∙ next_pending start i there.0 (ap (λ (l : List Place). slice_get l i) (sym are) ∙ there.1)
          ∙ ap (λ (n : ℕ). front_pending n start) (sym (add-one i));
      len = c.set_stage.ensures.len ∙ c.loop-place.invariant.len;
    }

pub returns-clause-places : goal.returns-clause-places
returns-clause-places c = grind (arith, all_are_pending, length-places)

pub returns-clause-requested : goal.returns-clause-requested
returns-clause-requested c = ap requested_in (returns-clause-places c) ∙ requested-pending (requested_in (map place_of c.args.board_entries.now.items))
