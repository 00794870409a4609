use Rattle.std.proofs.Common.{◌≡◌, ℕ, suc, ◌+◌, Bool, true, false, List, map, take, drop, Some, refl, sym, ap, subst, ◌∙◌, add-one, arith}
use Rattle.std.proofs.lemmas.List.{take-set-le, drop-set-lt}
use Rattle.std.specs.Prelude.{slice_get, slice_set}
use Rattle.std.specs.Vec.Iter.{into_iter_items}
use Rattle.gw_board.specs.BoardEntries.{place_of}
use Rattle.gw_board.specs.Boards.{is_pending_at, AllClosed}
use Rattle.gw_board.specs.Carried.{BurstRequest, carried}
use Rattle.gw_board.specs.Chains.{requests_of}
use Rattle.gw_board.specs.Core.{Place, pending, closed_with}
use Rattle.gw_board.specs.Stretches.{chained}
use Rattle.gw_board.specs.Texts.{Text}
use Rattle.gw_board.specs.declared.board_entry.BoardEntry.{BoardEntry}
use Rattle.gw_board.proofs.BoardEntryFacts.{length-places, place_there}
use Rattle.gw_board.proofs.CarriedAlone.{closed_more}
use Rattle.gw_board.proofs.ClosedInChains.{AreLeft, rest_at, all_left, none_left, passed_left, some_left, next_left, pending_there}
use Rattle.gw_board.proofs.GoingOn.{passed_closed}
use Rattle.gw_board.proofs.side_by_side.close_chained.Goals as goal
use Rattle.gw_board.proofs.side_by_side.close_chained.Goals.{After-set_stage}

there : (board_entries lent : List BoardEntry) (i : ℕ) (r b : Bool) → lent ≡ board_entries → r ≡ is_pending_at (slice_get (map place_of lent) i) → r ≡ b → is_pending_at (slice_get (map place_of board_entries) i) ≡ b
there board_entries lent i r b e is f = ap (λ (l : List BoardEntry). is_pending_at (slice_get (map place_of l) i)) (sym e) ∙ sym is ∙ f

pub unreachable-requires : goal.unreachable-requires
unreachable-requires c =
    let h = c.requires.goes_on in
    let first : ℕ = c.args.places.start in
    let i : ℕ = c.loop-place.place in
    let places : List Place = map place_of c.loop-place.board_entries.items in
    let so_far = c.loop-place.invariant in
    let a = pending_there (slice_get places i) (there c.loop-place.board_entries.items c.deref.result.now i c.is_pending_at.result true c.deref.ensures.value c.is_pending_at.ensures c.if-not-is_pending_at.false) in
    some_left h.0 h.1 _ c.args.numbers.now first places (map into_iter_items c.loop-place.texts.items) i so_far.from (omega (arith, so_far.from)) (so_far.left h.0 h.1 h.2 h.3 h.4) a.0 a.1 c.in_default.ensures.next

pub loop-place-init : goal.loop-place-init
loop-place-init c = record {
  from = omega arith;
  left = λ profile start m. all_left profile start c.args.numbers.now c.args.places.start (map place_of c.args.board_entries.now.items) (map into_iter_items c.args.texts.now.items) m;
  closed = c.requires.first;
  beside = record { front = refl; behind = refl };
  requested = refl;
  len = refl;
  chains = refl;
}

module _ (c : After-set_stage) where
  abbrev first : ℕ
  first = c.args.places.start

  abbrev i : ℕ
  i = c.loop-place.place

  abbrev places : List Place
  places = map place_of c.loop-place.board_entries.items

  pends : (a : BurstRequest) × (slice_get places i ≡ Some (pending a))
  pends = pending_there (slice_get places i) (there c.loop-place.board_entries.items c.deref.result.now i c.is_pending_at.result true c.deref.ensures.value c.is_pending_at.ensures c.if-not-is_pending_at.false)

  abbrev new : Place
  new = closed_with pends.0 c.in-Some.text

  places_are : map place_of c.set_stage.new.board_entries.items ≡ slice_set places i new
  places_are = c.set_stage.ensures.places (pending pends.0) pends.1

pub loop-place-preserved : goal.loop-place-preserved
loop-place-preserved c =
    let so_far = c.loop-place.invariant in
    let end : ℕ = c.args.places.end in
    let numbers : List ℕ = c.args.numbers.now in
    let texts : List (List Text) = map into_iter_items c.loop-place.texts.items in
    let taken : List (List Text) = map into_iter_items c.next_text.new.texts.items in
    record {
      from = omega (arith, so_far.from);
      left = λ profile start m h t.
          subst (λ (l : List Place). AreLeft profile start (carried profile (requests_of (chained numbers (drop (first c) (map place_of c.args.board_entries.now.items)))) m).maps (rest_at numbers (first c) l (i c + 1)) l taken) (sym (places_are c))
          (next_left profile start _ numbers (first c) (places c) texts (i c) so_far.from (omega (arith, so_far.from)) (so_far.left profile start m h t) (pends c).0 (pends c).1 so_far.closed c.in-Some.text taken c.in-Some.ensures.next);
      closed = subst (λ (n : ℕ). AllClosed (take n (map place_of c.set_stage.new.board_entries.items))) (sym (add-one (i c)))
          (subst (λ (l : List Place). AllClosed (take (suc (i c)) l)) (sym (places_are c)) (closed_more (places c) (i c) (new c) refl so_far.closed));
      beside = record {
        front = ap (take (first c)) (places_are c) ∙ take-set-le (first c) (places c) (i c) (new c) so_far.from ∙ so_far.beside.front;
        behind = ap (drop end) (places_are c) ∙ drop-set-lt end (places c) (i c) (new c) c.loop-place-test.true ∙ so_far.beside.behind;
      };
      requested = c.set_stage.ensures.requested ∙ so_far.requested;
      len = c.set_stage.ensures.len ∙ so_far.len;
      chains = c.next_text.ensures.len ∙ so_far.chains;
    }

pub loop-place-preserved-then-not-is_pending_at : goal.loop-place-preserved-then-not-is_pending_at
loop-place-preserved-then-not-is_pending_at c =
    let so_far = c.loop-place.invariant in
    let h = c.requires.goes_on in
    let i : ℕ = c.loop-place.place in
    let first : ℕ = c.args.places.start in
    let entries : List BoardEntry = c.loop-place.board_entries.items in
    let places : List Place = map place_of entries in
    let texts : List (List Text) = map into_iter_items c.loop-place.texts.items in
    let off : is_pending_at (slice_get places i) ≡ false = there entries c.deref.result.now i c.is_pending_at.result false c.deref.ensures.value c.is_pending_at.ensures c.if-not-is_pending_at.true in
    let o = c.loop-place.board_entries.ok.0 in
    let p : (x : Place) × (slice_get places i ≡ Some x) = place_there places i (omega (arith, so_far.len, length-places entries)) in
    record {
      from = omega (arith, so_far.from);
      left = λ profile start m g t. passed_left profile start _ c.args.numbers.now first places texts i so_far.from (omega (arith, so_far.from)) (so_far.left profile start m g t) p.0 p.1 (ap is_pending_at (sym p.1) ∙ off);
      closed = subst (λ (n : ℕ). AllClosed (take n places)) (sym (add-one i)) (passed_closed places i (so_far.left h.0 h.1 h.2 h.3 h.4).goes_on.none off so_far.closed);
      beside = so_far.beside;
      requested = so_far.requested;
      len = so_far.len;
      chains = so_far.chains;
    }

pub returns-clause-goes_on : goal.returns-clause-goes_on
returns-clause-goes_on c profile start m h t =
    none_left profile start c.args.numbers.now c.args.places.start (map place_of c.loop-place.board_entries.items) (map into_iter_items c.loop-place.texts.items) _ c.loop-place.place (omega arith) (c.loop-place.invariant.left profile start m h t)
