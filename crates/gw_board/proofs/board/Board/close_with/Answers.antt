use Rattle.std.proofs.Common.{◌≡◌, ℕ, suc, List, ◌∷◌, ◌++◌, [], map, Some, sym, ap, subst, ◌∙◌, arith}
use Rattle.std.specs.Prelude.{slice_get, slice_set}
use Rattle.gw_table.specs.Parts.{Parted, list_of, overlaid}
use Rattle.gw_table.specs.Stored.{maps_of, AreOut, CameBack}
use Rattle.gw_board.specs.BoardView.{value_of, IsOnTheWay, IsKeptIn, NoneIsSpare}
use Rattle.gw_board.specs.Boards.{Seen, Handed, HasOpen, job_of, undo_step_in, outcome_of, with_result, unclosed}
use Rattle.gw_board.specs.Core.{Place, Closed, open_with}
use Rattle.gw_board.specs.UndoLog.{UndoStep}
use Rattle.gw_board.specs.BoardEntries.{place_of}
use Rattle.gw_board.proofs.Ends.{fewer_unclosed}
use Rattle.gw_board.proofs.KeptIn.{open_out, result_kept_in}
use Rattle.gw_board.proofs.OnTheWay.{gives_the_fold, result_way}
use Rattle.gw_board.proofs.BoardEntryFacts.{seat_inside}
use Rattle.gw_board.proofs.Spare.{result_spare}
use Rattle.gw_board.proofs.board.Board.close_with.Goals as goal
use Rattle.gw_board.proofs.board.Board.close_with.Goals.{After-push_reserved}

-- the job is open on the board as its fields are
here : (b now : Seen) (h : Handed) → b ≡ now → HasOpen now h → HasOpen b h
here b now h e o = subst (λ (x : Seen). HasOpen x h) (sym e) o

stands_at : (b : Seen) (h : Handed) (i : ℕ) → i ≡ h.place → HasOpen b h → slice_get b.places i ≡ Some (open_with h.requested (job_of h))
stands_at b h i e o = ap (slice_get b.places) e ∙ o.stands

pub put_back-requires : goal.put_back-requires
put_back-requires c =
    let b : Seen = value_of c.self.inside in
    subst (λ (p : Parted). AreOut (list_of p.keys) c.self.inside.tables) (sym c.requires.part)
    (open_out b c.self.invariant.on_the_way c.args.job (here b c.args.self.now c.args.job c.self.view_is c.requires.«open») c.self.inside.tables c.self.invariant.kept)

pub set_stage-requires : goal.set_stage-requires
set_stage-requires c = grind (arith, seat_inside, stands_at, here)

pub push_reserved-requires : goal.push_reserved-requires
push_reserved-requires c =
    let b : Seen = value_of c.self.inside in
    let o : HasOpen b c.args.job = here b c.args.self.now c.args.job c.self.view_is c.requires.«open» in
    let fewer : suc (unclosed (with_result b c.args.job).places) ≡ unclosed b.places = fewer_unclosed b c.args.job o in
    let room = c.self.invariant.room.undo_log in
    omega arith

module _ (c : After-push_reserved) where
  abbrev b : Seen
  b = value_of c.self.inside

  abbrev h : Handed
  h = c.args.job

  o : HasOpen b h
  o = here b c.args.self.now h c.self.view_is c.requires.«open»

  maps_are : maps_of c.put_back.new.self ≡ (with_result b h).maps
  maps_are = c.put_back.ensures.maps ∙ ap (λ (p : Parted). overlaid (list_of p.keys) p.maps b.maps) c.requires.part

  places_are : map place_of c.set_stage.new.board_entries.items ≡ (with_result b h).places
  places_are =
      c.set_stage.ensures.places (open_with h.requested (job_of h)) (stands_at b h c.job.inside.place (ap (λ (x : Handed). x.place) c.job.view_is) o)
      ∙ (λ j. slice_set b.places ((c.job.view_is j).place) (record { requested = h.requested; standing = Closed (c.requires.reply j) }))

  originals_are : c.push_reserved.new.self.items ≡ (with_result b h).undo_log
  originals_are =
      c.push_reserved.ensures.items
      ∙ ap (λ (o : UndoStep). b.undo_log ++ o ∷ []) c.of_job.ensures
      ∙ ap (λ (x : Handed). b.undo_log ++ undo_step_in x ∷ []) c.job.view_is

  abbrev new : Seen
  new = record { profile = b.profile; start = b.start; maps = maps_of c.put_back.new.self; places = map place_of c.set_stage.new.board_entries.items; undo_log = c.push_reserved.new.self.items }

  is_new : new ≡ with_result b h
  is_new = λ j. record { profile = b.profile; start = b.start; maps = maps_are j; places = places_are j; undo_log = originals_are j }

pub invariant_of-self : goal.invariant_of-self
invariant_of-self c =
    let fewer : suc (unclosed (map place_of c.set_stage.new.board_entries.items)) ≡ unclosed (map place_of c.self.inside.board_entries.items) = ap (λ (l : List Place). suc (unclosed l)) (places_are c) ∙ fewer_unclosed (b c) (h c) (o c) in
    let room = c.self.invariant.room.undo_log in
    let replies = c.self.invariant.room.replies in
    let all = c.self.invariant.room.all in
    let len = c.set_stage.ensures.len in
    let more = c.push_reserved.ensures.len in
    let space = c.push_reserved.ensures.capacity in
    let back : CameBack (h c).keys c.self.inside.tables c.put_back.new.self = subst (λ (p : Parted). CameBack (list_of p.keys) c.self.inside.tables c.put_back.new.self) c.requires.part c.put_back.ensures.out in
    record {
      on_the_way = subst IsOnTheWay (sym (is_new c)) (result_way (b c) (h c) c.self.invariant.on_the_way (o c));
      kept = subst (IsKeptIn c.put_back.new.self) (sym (is_new c))
          (result_kept_in (b c) c.self.invariant.on_the_way (h c) (o c) c.self.inside.tables c.self.invariant.kept c.put_back.new.self back (λ k i. c.put_back.ensures.ready k ∙ i));
      room = record { undo_log = omega arith; all = omega arith; replies = omega arith; no_replies = c.self.invariant.room.no_replies };
      spare = λ e.
          subst (λ (l : List Place). NoneIsSpare (b c).start c.put_back.new.self c.push_reserved.new.self.items l) (sym (places_are c))
          (subst (λ (l : List UndoStep). NoneIsSpare (b c).start c.put_back.new.self l (with_result (b c) (h c)).places) (sym (originals_are c))
          (result_spare (b c) (h c) (o c) c.self.inside.tables c.put_back.new.self (outcome_of (h c)).maps c.put_back.ensures.ready (maps_are c) (c.self.invariant.spare e)));
    }

pub returns-clause-board : goal.returns-clause-board
returns-clause-board c = is_new c ∙ ap (λ (x : Seen). with_result x c.args.job) c.self.view_is

pub returns-clause-outcome : goal.returns-clause-outcome
returns-clause-outcome c = gives_the_fold (new c) (subst IsOnTheWay (sym (is_new c)) (result_way (b c) (h c) c.self.invariant.on_the_way (o c)))
