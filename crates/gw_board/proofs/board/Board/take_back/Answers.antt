use Rattle.std.proofs.Common.{◌≡◌, ℕ, map, Some, sym, ap, subst, ◌∙◌, arith}
use Rattle.std.specs.Prelude.{slice_get, slice_set}
use Rattle.gw_table.specs.Parts.{overlaid}
use Rattle.gw_table.specs.Stored.{maps_of, AreOut, CameBack}
use Rattle.gw_board.specs.BoardView.{value_of, IsOnTheWay, IsKeptIn}
use Rattle.gw_board.specs.Boards.{Seen, Handed, HasOpen, job_of, unchanged, unclosed}
use Rattle.gw_board.specs.Core.{Pending, open_with}
use Rattle.gw_board.specs.BoardEntries.{place_of}
use Rattle.gw_board.proofs.Ends.{as_many_unclosed}
use Rattle.gw_board.proofs.KeptIn.{open_out, unchanged_kept}
use Rattle.gw_board.proofs.OnTheWay.{gives_the_fold, unchanged_way}
use Rattle.gw_board.proofs.BoardEntryFacts.{seat_inside}
use Rattle.gw_board.proofs.board.Board.take_back.Goals as goal
use Rattle.gw_board.proofs.board.Board.take_back.Goals.{After-set_stage}

-- the job is open on the board as its fields are
here : (b now : Seen) (h : Handed) → b ≡ now → HasOpen now h → HasOpen b h
here b now h e o = subst (λ (x : Seen). HasOpen x h) (sym e) o

stands_at : (b : Seen) (h : Handed) (i : ℕ) → i ≡ h.place → HasOpen b h → slice_get b.places i ≡ Some (open_with h.requested (job_of h))
stands_at b h i e o = ap (slice_get b.places) e ∙ o.stands

pub put_back-requires : goal.put_back-requires
put_back-requires c =
    let b : Seen = value_of c.self.inside in
    subst (λ (x : Handed). AreOut x.keys c.self.inside.tables) (sym c.job.view_is)
    (open_out b c.self.invariant.on_the_way c.args.job (here b c.args.self.now c.args.job c.self.view_is c.requires) c.self.inside.tables c.self.invariant.kept)

pub set_stage-requires : goal.set_stage-requires
set_stage-requires c = grind (arith, seat_inside, stands_at, here)

module _ (c : After-set_stage) where
  abbrev b : Seen
  b = value_of c.self.inside

  abbrev h : Handed
  h = c.args.job

  o : HasOpen b h
  o = here b c.args.self.now h c.self.view_is c.requires

  maps_are : maps_of c.put_back.new.self ≡ (unchanged b h).maps
  maps_are = c.put_back.ensures.maps ∙ ap (λ (x : Handed). overlaid x.keys x.part b.maps) c.job.view_is

  places_are : map place_of c.set_stage.new.board_entries.items ≡ (unchanged b h).places
  places_are =
      c.set_stage.ensures.places (open_with h.requested (job_of h)) (stands_at b h c.job.inside.place (ap (λ (x : Handed). x.place) c.job.view_is) o)
      ∙ (λ j. slice_set b.places ((c.job.view_is j).place) (record { requested = h.requested; standing = Pending }))

  abbrev new : Seen
  new = record { profile = b.profile; start = b.start; maps = maps_of c.put_back.new.self; places = map place_of c.set_stage.new.board_entries.items; undo_log = b.undo_log }

  is_new : new ≡ unchanged b h
  is_new = λ j. record { profile = b.profile; start = b.start; maps = maps_are j; places = places_are j; undo_log = b.undo_log }

pub invariant_of-self : goal.invariant_of-self
invariant_of-self c =
    let same : unclosed (map place_of c.set_stage.new.board_entries.items) ≡ unclosed (map place_of c.self.inside.board_entries.items) = ap unclosed (places_are c) ∙ as_many_unclosed (b c) (h c) (o c) in
    let room = c.self.invariant.room.undo_log in
    let replies = c.self.invariant.room.replies in
    let all = c.self.invariant.room.all in
    let len = c.set_stage.ensures.len in
    let back : CameBack (h c).keys c.self.inside.tables c.put_back.new.self = subst (λ (x : Handed). CameBack x.keys c.self.inside.tables c.put_back.new.self) c.job.view_is c.put_back.ensures.out in
    record {
      on_the_way = subst IsOnTheWay (sym (is_new c)) (unchanged_way (b c) (h c) c.self.invariant.on_the_way (o c));
      kept = subst (IsKeptIn c.put_back.new.self) (sym (is_new c))
          (unchanged_kept (b c) c.self.invariant.on_the_way (h c) (o c) c.self.inside.tables c.self.invariant.kept c.put_back.new.self back (λ k i. c.put_back.ensures.ready k ∙ i));
      room = record { undo_log = omega arith; all = omega arith; replies = omega arith; no_replies = c.self.invariant.room.no_replies };
      spare = λ e. absurd cc;
    }

pub returns-clause-board : goal.returns-clause-board
returns-clause-board c = is_new c ∙ ap (λ (x : Seen). unchanged x c.args.job) c.self.view_is

pub returns-clause-outcome : goal.returns-clause-outcome
returns-clause-outcome c = gives_the_fold (new c) (subst IsOnTheWay (sym (is_new c)) (unchanged_way (b c) (h c) c.self.invariant.on_the_way (o c)))
