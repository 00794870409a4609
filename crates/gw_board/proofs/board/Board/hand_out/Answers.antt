use Rattle.std.proofs.Common.{◌≡◌, ℕ, List, map, None, refl, sym, ap, subst, ◌∙◌, arith}
use Rattle.std.specs.Prelude.{◌||◌, ◌&&◌, slice_get, slice_set}
use Rattle.gw_base.specs.Keys.{has}
use Rattle.gw_base.specs.declared.key.Key.{Key}
use Rattle.gw_table.specs.Maps.{Maps}
use Rattle.gw_table.specs.Parts.{Only, list_of, restricted, cut}
use Rattle.gw_table.specs.Stored.{maps_of, is_out, names_entry, AreIn, NoOtherReady}
use Rattle.gw_board.specs.BoardView.{value_of, IsOnTheWay, IsKeptIn, NoneIsSpare}
use Rattle.gw_board.specs.Boards.{Seen, Handed, core_of, Opens, with_open, unclosed}
use Rattle.gw_board.specs.Carried.{BurstRequest}
use Rattle.gw_board.specs.Core.{Opened, Place, pending, open_with, MayOpen}
use Rattle.gw_board.specs.Jobs.{IsJob}
use Rattle.gw_board.specs.BoardEntries.{place_of}
use Rattle.gw_board.proofs.KeptIn.{open_in, open_kept}
use Rattle.gw_board.proofs.OnTheWay.{gives_the_fold, open_way, open_job}
use Rattle.gw_board.proofs.BoardEntryFacts.{seat_inside, unclosed-stays}
use Rattle.gw_board.proofs.Spare.{open_spare}
use Rattle.gw_board.proofs.board.Board.hand_out.Goals as goal
use Rattle.gw_board.proofs.board.Board.hand_out.Goals.{After-set_stage}

pub take_out-part-requires-clause-here : goal.take_out-part-requires-clause-here
take_out-part-requires-clause-here c =
    let b : Seen = value_of c.self.inside in
    let may : MayOpen (core_of b) c.args.place c.args.task c.args.keys = subst (λ (x : Seen). MayOpen (core_of x) c.args.place c.args.task c.args.keys) (sym c.self.view_is) c.requires in
    subst (λ (l : List Key). AreIn l c.prepare.new.self) (sym c.in-Ok.ensures.keys)
    (open_in b c.args.place c.args.task c.args.keys c.prepare.new.self c.self.invariant.on_the_way may (λ k. c.in-Ok.ensures.out k ∙ c.self.invariant.kept.out k))

pub set_stage-requires : goal.set_stage-requires
set_stage-requires c = seat_inside c.self.inside.board_entries.items c.args.place (pending c.args.task) (ap (λ (x : Seen). slice_get x.places c.args.place) c.self.view_is ∙ c.requires.pends)

module _ (c : After-set_stage) where
  abbrev b : Seen
  b = value_of c.self.inside

  abbrev i : ℕ
  i = c.args.place

  abbrev a : BurstRequest
  a = c.args.task

  abbrev keys : List Key
  keys = c.args.keys

  may : MayOpen (core_of b) i a keys
  may = subst (λ (x : Seen). MayOpen (core_of x) i a keys) (sym c.self.view_is) c.requires

  part_maps : c.take_out-part.result.maps ≡ restricted keys b.maps
  part_maps = c.take_out-part.ensures.part ∙ ap (λ (l : List Key). restricted l (maps_of c.prepare.new.self)) c.in-Ok.ensures.keys ∙ ap (λ (m : Maps). restricted keys m) c.in-Ok.ensures.maps

  part_keys : list_of c.take_out-part.result.keys ≡ keys
  part_keys = ap list_of c.take_out-part.ensures.keys ∙ c.in-Ok.ensures.keys

  abbrev handed : Handed
  handed = record { profile = c.self.inside.profile; place = i; requested = a; keys = list_of c.take_out-part.result.keys; part = c.take_out-part.result.maps }

  is_handed : handed ≡ record { profile = b.profile; place = i; requested = a; keys = keys; part = restricted keys b.maps }
  is_handed = λ j. record { profile = b.profile; place = i; requested = a; keys = part_keys j; part = part_maps j }

  places_are : map place_of c.set_stage.new.board_entries.items ≡ (with_open b i a keys).places
  places_are =
      c.set_stage.ensures.places (pending a) may.pends
      ∙ (λ j. slice_set b.places i (record { requested = a; standing = Opened (record { keys = listed j; part = visible j; result = None }) }))
    where
      listed : c.in_ok-listed.listed.items ≡ keys
      listed = c.in_ok-listed.ensures.items ∙ c.list.ensures.list

      visible : c.of-visible.result.value.maps ≡ restricted keys b.maps
      visible = ap (λ p. p.maps) c.of-visible.ensures ∙ part_maps

  -- no key but its own became prepared
  others_ready : NoOtherReady keys c.self.inside.tables c.take_out-part.new.self
  others_ready k h r = c.in-Ok.ensures.alone k h (sym (c.take_out-part.ensures.ready k) ∙ r)

  maps_are : maps_of c.take_out-part.new.self ≡ cut keys b.maps
  maps_are = c.take_out-part.ensures.maps ∙ ap (λ (l : List Key). cut l (maps_of c.prepare.new.self)) c.in-Ok.ensures.keys ∙ ap (λ (m : Maps). cut keys m) c.in-Ok.ensures.maps

  abbrev new : Seen
  new = record { profile = b.profile; start = b.start; maps = maps_of c.take_out-part.new.self; places = map place_of c.set_stage.new.board_entries.items; undo_log = b.undo_log }

  is_new : new ≡ with_open b i a keys
  is_new = λ j. record { profile = b.profile; start = b.start; maps = maps_are j; places = places_are j; undo_log = b.undo_log }

pub invariant_of-result : goal.invariant_of-result
invariant_of-result c = (
  c.take_out-part.ensures.keys ∙ ap (λ (l : List Key). Only l) (c.in-Ok.ensures.keys ∙ sym (part_keys c)),
  subst IsJob (sym (is_handed c)) (open_job (b c) c.self.invariant.on_the_way c.args.place c.args.task c.args.keys (may c)),
)

pub invariant_of-self-2 : goal.invariant_of-self-2
invariant_of-self-2 c =
    let same : unclosed (map place_of c.set_stage.new.board_entries.items) ≡ unclosed (map place_of c.self.inside.board_entries.items) =
    ap unclosed (places_are c) ∙ unclosed-stays (b c).places c.args.place (pending c.args.task) (open_with c.args.task _) (may c).pends refl refl in
    let room = c.self.invariant.room.undo_log in
    let replies = c.self.invariant.room.replies in
    let all = c.self.invariant.room.all in
    let len = c.set_stage.ensures.len in
    record {
      on_the_way = subst IsOnTheWay (sym (is_new c)) (open_way (b c) c.self.invariant.on_the_way c.args.place c.args.task c.args.keys (may c));
      kept = subst (IsKeptIn c.take_out-part.new.self) (sym (is_new c))
          (open_kept (b c) c.args.place c.args.task c.args.keys c.self.inside.tables c.take_out-part.new.self c.self.invariant.kept (may c).pends
          (λ k. c.take_out-part.ensures.out k ∙ ap (λ (l : List Key). is_out c.prepare.new.self k || (has l k && names_entry k)) c.in-Ok.ensures.keys ∙ ap (λ o. o || (has c.args.keys k && names_entry k)) (c.in-Ok.ensures.out k))
          (λ k h. c.take_out-part.ensures.ready k ∙ c.in-Ok.ensures.kept k h));
      room = record { undo_log = omega arith; all = omega arith; replies = omega arith; no_replies = c.self.invariant.room.no_replies };
      spare = λ e.
          subst (λ (l : List Place). NoneIsSpare (b c).start c.take_out-part.new.self (b c).undo_log l) (sym (places_are c))
          (open_spare (b c) c.args.place c.args.task c.args.keys c.self.inside.tables c.take_out-part.new.self (may c).pends (others_ready c) (maps_are c) (c.self.invariant.spare e));
    }

pub returns-clause-job : goal.returns-clause-job
returns-clause-job c =
    let there : Opens c.args.self.now c.args.place (record { profile = c.args.self.now.profile; place = c.args.place; requested = c.args.task; keys = c.args.keys; part = restricted c.args.keys c.args.self.now.maps }) (new c) = record {
      may = c.requires;
      job = refl;
      board = is_new c ∙ ap (λ (x : Seen). with_open x c.args.place c.args.task c.args.keys) c.self.view_is;
    } in
    subst (λ (h : Handed). Opens c.args.self.now c.args.place h (new c))
    (sym (is_handed c ∙ ap (λ (x : Seen). record { profile = x.profile; place = c.args.place; requested = c.args.task; keys = c.args.keys; part = restricted c.args.keys x.maps }) c.self.view_is))
    there

pub returns-clause-outcome : goal.returns-clause-outcome
returns-clause-outcome c = gives_the_fold (new c) (subst IsOnTheWay (sym (is_new c)) (open_way (b c) c.self.invariant.on_the_way c.args.place c.args.task c.args.keys (may c)))
