use Rattle.std.proofs.Common.{◌≡◌, ℕ, suc, false, List, map, take, drop, Option, Some, refl, sym, ap, subst, ◌∙◌, add-one, arith}
use Rattle.std.proofs.lemmas.List.{take-set-le, drop-set-lt}
use Rattle.std.specs.Prelude.{slice_get, slice_set}
use Rattle.gw_reserve.specs.Owned.{AreFreeSlots}
use Rattle.gw_table.specs.Maps.{Maps}
use Rattle.gw_table.specs.Parts.{Over as OverTables, PartKeys, start_of}
use Rattle.gw_table.specs.Stored.{Stored}
use Rattle.gw_board.specs.declared.profile.Profile.{Profile}
use Rattle.gw_board.specs.Boards.{is_pending_at, AllClosed}
use Rattle.gw_board.specs.Carried.{BurstRequest, done}
use Rattle.gw_board.specs.Core.{Place, Closed, closed_with, pending}
use Rattle.gw_board.specs.GoingOn.{MayGoOn}
use Rattle.gw_board.specs.Met.{PendsAt}
use Rattle.gw_board.specs.BoardEntries.{place_of}
use Rattle.gw_board.specs.Texts.{Text}
use Rattle.gw_board.specs.declared.board_entry.BoardEntry.{BoardEntry}
use Rattle.gw_board.proofs.BoardEntryFacts.{seat_inside}
use Rattle.gw_board.proofs.CarriedAlone.{alone_goes_on, closed_more, unused_here, well_here}
use Rattle.gw_board.proofs.GoingOn.{covers_over, passed_closed}
use Rattle.gw_board.proofs.alone.carry_each.Goals as goal
use Rattle.gw_board.proofs.alone.carry_each.Goals.{After-set_stage}
use Rattle.gw_board.proofs.alone.carry_each.Given.{Over}

pends_there : (board_entries lent : List BoardEntry) (i : ℕ) (a : BurstRequest) → lent ≡ board_entries → slice_get (map place_of lent) i ≡ Some (pending a) → slice_get (map place_of board_entries) i ≡ Some (pending a)
pends_there board_entries lent i a e h = ap (λ (l : List BoardEntry). slice_get (map place_of l) i) (sym e) ∙ h

pub carry_on-requires-clause-covered : goal.carry_on-requires-clause-covered
carry_on-requires-clause-covered g c =
    let so_far = c.loop-place.invariant in
    let start = c.requires.goes_on.0 in
    covers_over c.args.profile.now.rules.members c.loop-place.draft (start_of c.loop-place.draft.keys)
    (so_far.over ∙ c.requires.over ∙ ap (λ (k : PartKeys). OverTables (start_of k)) (sym so_far.over))
    (well_here c.args.profile.now start c.loop-place.draft.maps (map place_of c.loop-place.board_entries.items) (so_far.goes_on start c.requires.goes_on.1) c.loop-place.place c.in-Some.task (pends_there c.loop-place.board_entries.items c.deref.result.now c.loop-place.place c.in-Some.task c.deref.ensures.value c.in-Some.ensures)) _

pub carry_on-requires-clause-unused : goal.carry_on-requires-clause-unused
carry_on-requires-clause-unused g c =
    let start = c.requires.goes_on.0 in
    subst (λ (x : BurstRequest). AreFreeSlots c.loop-place.draft.maps x.owned.slots) (sym c.get.ensures)
    (unused_here c.args.profile.now start c.loop-place.draft.maps (map place_of c.loop-place.board_entries.items) (c.loop-place.invariant.goes_on start c.requires.goes_on.1) c.loop-place.place c.in-Some.task (pends_there c.loop-place.board_entries.items c.deref.result.now c.loop-place.place c.in-Some.task c.deref.ensures.value c.in-Some.ensures))

pub set_stage-requires : goal.set_stage-requires
set_stage-requires g c = seat_inside c.loop-place.board_entries.items c.loop-place.place (pending c.in-Some.task) (pends_there c.loop-place.board_entries.items c.deref.result.now c.loop-place.place c.in-Some.task c.deref.ensures.value c.in-Some.ensures)

module _ (g : Over) (c : After-set_stage g) where
  abbrev profile : Profile
  profile = c.args.profile.now

  abbrev maps : Maps
  maps = c.loop-place.draft.maps

  abbrev places : List Place
  places = map place_of c.loop-place.board_entries.items

  abbrev i : ℕ
  i = c.loop-place.place

  abbrev a : BurstRequest
  a = c.in-Some.task

  abbrev closed : Place
  closed = closed_with a (done profile a maps).answer

  pends : slice_get places i ≡ Some (pending a)
  pends = pends_there c.loop-place.board_entries.items c.deref.result.now i a c.deref.ensures.value c.in-Some.ensures

  maps_are : c.carry_on.new.draft.maps ≡ (done profile a maps).maps
  maps_are = c.in_ok-text.ensures.maps ∙ ap (λ (x : BurstRequest). (done profile x maps).maps) c.get.ensures

  places_are : map place_of c.set_stage.new.board_entries.items ≡ slice_set places i closed
  places_are =
      c.set_stage.ensures.places (pending a) pends
      ∙ ap (λ (t : Text). slice_set places i (record { requested = a; standing = Closed t })) (c.in_ok-text.ensures.reply ∙ ap (λ (x : BurstRequest). (done profile x maps).answer) c.get.ensures)

  goes_on : (start : Stored) → MayGoOn profile start maps places → MayGoOn profile start c.carry_on.new.draft.maps (map place_of c.set_stage.new.board_entries.items)
  goes_on start h =
      subst (λ (m : Maps). MayGoOn profile start m (map place_of c.set_stage.new.board_entries.items)) (sym maps_are)
      (subst (λ (l : List Place). MayGoOn profile start (done profile a maps).maps l) (sym places_are) (alone_goes_on profile start maps places h i a pends c.loop-place.invariant.closed))

pub loop-place-preserved : goal.loop-place-preserved
loop-place-preserved g c =
    let so_far = c.loop-place.invariant in
    let first = c.args.places.start in
    let end = c.args.places.end in
    record {
      from = omega (arith, so_far.from);
      over = c.carry_on.ensures.keys ∙ so_far.over;
      goes_on = λ start h. goes_on g c start (so_far.goes_on start h);
      closed = subst (λ (n : ℕ). AllClosed (take n (map place_of c.set_stage.new.board_entries.items))) (sym (add-one (i g c)))
          (subst (λ (l : List Place). AllClosed (take (suc (i g c)) l)) (sym (places_are g c)) (closed_more (places g c) (i g c) (closed g c) refl so_far.closed));
      beside = record {
        front = ap (take first) (places_are g c) ∙ take-set-le first (places g c) (i g c) (closed g c) so_far.from ∙ so_far.beside.front;
        behind = ap (drop end) (places_are g c) ∙ drop-set-lt end (places g c) (i g c) (closed g c) c.loop-place-test.true ∙ so_far.beside.behind;
      };
      requested = c.set_stage.ensures.requested ∙ so_far.requested;
      len = c.set_stage.ensures.len ∙ so_far.len;
    }

pub loop-place-preserved-in_default : goal.loop-place-preserved-in_default
loop-place-preserved-in_default g c =
    let so_far = c.loop-place.invariant in
    let h = c.requires.goes_on in
    let places : List Place = map place_of c.loop-place.board_entries.items in
    let off : is_pending_at (slice_get places c.loop-place.place) ≡ false =
    ap (λ (l : List BoardEntry). is_pending_at (slice_get (map place_of l) c.loop-place.place)) (sym c.deref.ensures.value)
    ∙ subst (λ (r : Option BurstRequest). PendsAt (slice_get (map place_of c.deref.result.now) c.loop-place.place) r) c.in_default.is c.pending_at.ensures in
    record {
      from = omega (arith, so_far.from);
      over = so_far.over;
      goes_on = so_far.goes_on;
      closed = subst (λ (n : ℕ). AllClosed (take n places)) (sym (add-one c.loop-place.place)) (passed_closed places c.loop-place.place (so_far.goes_on h.0 h.1).none off so_far.closed);
      beside = so_far.beside;
      requested = so_far.requested;
      len = so_far.len;
    }
