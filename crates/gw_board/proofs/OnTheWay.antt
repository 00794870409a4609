-- Each call of a board leaves it on the way to what its requests come to.
use Rattle.std.proofs.Common.{◌≡◌, ℕ, zero, suc, List, [], ◌∷◌, ◌++◌, map, Some, None, refl, sym, ap, subst, ◌∙◌}
use Rattle.std.specs.Prelude.{slice_get, slice_set}
use Rattle.gw_board.specs.declared.profile.Profile.{Profile}
use Rattle.gw_base.specs.declared.key.Key.{Key}
use Rattle.gw_board.specs.Texts.{Text}
use Rattle.gw_reserve.specs.Owned.{paired, AreFreeSlots}
use Rattle.gw_table.specs.Maps.{Maps, Outcome}
use Rattle.gw_table.specs.Parts.{Only, restricted}
use Rattle.gw_table.specs.Unused.{AreUnused}
use Rattle.gw_table.specs.WellFormed.{AreWellFormed}
use Rattle.gw_table.specs.Stored.{Stored, maps_of}
use Rattle.gw_table.proofs.PartLookups.{sound_whole}
use Rattle.gw_tx.specs.Footprints.{footprint_of, Covers}
use Rattle.gw_foot.proofs.OutAndBack.{part_unused}
use Rattle.gw_foot.proofs.WithOthers.{part_covers}
use Rattle.gw_board.specs.BoardView.{IsBegun, IsOnTheWay}
use Rattle.gw_board.specs.Boards.{Seen, Handed, HasOpen, core_of, requested_in, begun_board, GivesTheFold, job_of, with_open, with_result, unchanged}
use Rattle.gw_board.specs.Carried.{BurstRequest, done, carried}
use Rattle.gw_board.specs.Core.{Place, Job, Core, pending, open_with, closed_with, MayOpen, after_open, drawn, after_draw, after_close, after_return}
use Rattle.gw_board.specs.Fitting.{FitsTogether}
use Rattle.gw_board.specs.Jobs.{IsJob}
use Rattle.gw_board.specs.UndoLog.{Placed, undone}
use Rattle.gw_board.specs.Results.{carried_on, slots_of}
use Rattle.gw_board.proofs.Closing.{job_here}
use Rattle.gw_board.proofs.Comes.{result_kept}
use Rattle.gw_board.proofs.Drawing.{set_here}
use Rattle.gw_board.proofs.Started.{carried_start}
use Rattle.gw_board.proofs.Steps.{Leaves, made_of, undone-append, open_leaves, draw_leaves, return_leaves, close_leaves, here_stand, kept_start}

-- ---- what is asked stays

pub requested-set : (places : List Place) (i : ℕ) (p new : Place) → slice_get places i ≡ Some p → new.requested ≡ p.requested → requested_in (slice_set places i new) ≡ requested_in places
requested-set [] i p new e f = absurd cc
requested-set (q ∷ qs) zero p new e f = let same : q ≡ p = cc in ap (λ (a : BurstRequest). a ∷ requested_in qs) (f ∙ ap (λ (x : Place). x.requested) (sym same))
requested-set (q ∷ qs) (suc i) p new e f = ap (λ (l : List BurstRequest). q.requested ∷ l) (requested-set qs i p new e f)

pub requested-pending : (requested : List BurstRequest) → requested_in (map pending requested) ≡ requested
requested-pending [] = refl
requested-pending (a ∷ more) = ap (λ (l : List BurstRequest). a ∷ l) (requested-pending more)

pub set_twice : {X : Type 0} (xs : List X) (i : ℕ) (x y : X) → slice_set (slice_set xs i x) i y ≡ slice_set xs i y
set_twice [] i x y = refl
set_twice (z ∷ zs) zero x y = refl
set_twice (z ∷ zs) (suc i) x y = ap (λ l. z ∷ l) (set_twice zs i x y)

-- ---- at the start

pub begun_way : (profile : Profile) (requested : List BurstRequest) (s : Stored) → AreWellFormed profile.rules.members (maps_of s) → AreUnused (maps_of s) [] (slots_of requested) → IsOnTheWay (begun_board profile requested s)
begun_way profile requested s w u = record {
  begun = record { well = w; unused = subst (λ (l : List BurstRequest). AreUnused (maps_of s) [] (slots_of l)) (sym (requested-pending requested)) u };
  fits = kept_start profile 0 requested (maps_of s) w u;
  outcome = carried_start profile requested (maps_of s) ∙ ap (λ (l : List BurstRequest). carried profile l (maps_of s)) (sym (requested-pending requested));
  back = refl;
}

pub gives_the_fold : (b : Seen) → IsOnTheWay b → GivesTheFold b
gives_the_fold b w = result_kept b.profile (core_of b) w.fits ∙ w.outcome

module _ (b : Seen) (w : IsOnTheWay b) (i : ℕ) (a : BurstRequest) where
  abbrev profile : Profile
  profile = b.profile

  abbrev s : Core
  s = core_of b

  -- the requests that are carried out are the same
  still : (places : List Place) → requested_in places ≡ requested_in b.places → carried profile (requested_in b.places) (maps_of b.start) ≡ carried profile (requested_in places) (maps_of b.start)
  still places e = ap (λ (l : List BurstRequest). carried profile l (maps_of b.start)) (sym e)

  -- what the board was given is as fit for them
  pub begun_still : (c : Seen) → c.profile ≡ b.profile → c.start ≡ b.start → requested_in c.places ≡ requested_in b.places → IsBegun c
  begun_still c m n e = record {
    well = subst (λ (r : Profile). AreWellFormed r.rules.members (maps_of c.start)) (sym m) (subst (λ (x : Stored). AreWellFormed b.profile.rules.members (maps_of x)) (sym n) w.begun.well);
    unused = subst (λ (l : List BurstRequest). AreUnused (maps_of c.start) [] (slots_of l)) (sym e) (subst (λ (x : Stored). AreUnused (maps_of x) [] (slots_of (requested_in b.places))) (sym n) w.begun.unused);
  }

  -- ---- a place is opened

  pub open_way : (keys : List Key) → MayOpen s i a keys → IsOnTheWay (with_open b i a keys)
  open_way keys may =
      let t : Core = after_open s i a keys in
      let l : Leaves profile s t w.fits [] = open_leaves profile s w.fits i a keys may in
      let requested : requested_in t.places ≡ requested_in b.places = requested-set b.places i (pending a) (open_with a (record { keys = keys; part = restricted keys b.maps; result = None })) may.pends refl in
      record {
        begun = begun_still (with_open b i a keys) refl refl requested;
        fits = record { whole = l.kept.whole; well = l.kept.well; maps = l.kept.maps; stand = l.kept.stand };
        outcome = l.same ∙ w.outcome ∙ still t.places requested;
        back = ap (undone b.undo_log) l.back ∙ w.back;
      }

  pub open_job : (keys : List Key) → MayOpen s i a keys → IsJob (record { profile = profile; place = i; requested = a; keys = keys; part = restricted keys b.maps })
  open_job keys may =
      let j : Job = record { keys = keys; part = restricted keys b.maps; result = None } in
      let t : Core = after_open s i a keys in
      let k : FitsTogether profile t = (open_leaves profile s w.fits i a keys may).kept in
      let there : slice_get t.places i ≡ Some (open_with a j) = set_here b.places i (pending a) (open_with a j) may.pends in
      let is = job_here profile k.whole a j _ _ (here_stand profile t k i a j there) in
      let part : restricted keys b.maps ≡ restricted keys k.whole = is.1.part in
      record {
        covers = subst (λ (p : Maps). Covers (record { keys = Only keys; maps = p }) (footprint_of (paired a.request a.owned) p)) (sym part)
            (part_covers keys (paired a.request a.owned) k.whole (sound_whole profile.rules.members k.whole k.well) (λ q h. is.1.keys q ∙ h));
        unused = subst (λ (p : Maps). AreFreeSlots p a.owned.slots) (sym part) (part_unused keys a.owned.slots k.whole is.0);
      }

  -- ---- a job is closed

  module _ (j : Job) (e : slice_get b.places i ≡ Some (open_with a j)) where
    return_way : IsOnTheWay (record b { maps = (after_return s i a j).maps; places = (after_return s i a j).places })
    return_way =
        let t : Core = after_return s i a j in
        let l : Leaves profile s t w.fits [] = return_leaves profile s w.fits i a j e in
        let requested : requested_in t.places ≡ requested_in b.places = requested-set b.places i (open_with a j) (pending a) e refl in
        record {
          begun = begun_still (record b { maps = t.maps; places = t.places }) refl refl requested;
          fits = record { whole = l.kept.whole; well = l.kept.well; maps = l.kept.maps; stand = l.kept.stand };
          outcome = l.same ∙ w.outcome ∙ still t.places requested;
          back = ap (undone b.undo_log) l.back ∙ w.back;
        }

    abbrev closed_as : Profile → Seen
    closed_as r = record b {
      maps = (after_close s i a j (done r a j.part)).maps;
      places = (after_close s i a j (done r a j.part)).places;
      undo_log = b.undo_log ++ record { keys = j.keys; way = Placed j.part } ∷ [];
    }

    -- it is drawn, and then closed with what that gave
    close_way : IsOnTheWay (closed_as profile)
    close_way =
        let o : Outcome Text = done profile a j.part in
        let c : Seen = closed_as profile in
        let s1 : Core = after_draw profile s 0 i a j in
        let l1 : Leaves profile s s1 w.fits [] = draw_leaves profile s w.fits i a j e 0 in
        let e1 : slice_get s1.places i ≡ Some (open_with a (drawn profile a j)) = set_here b.places i (open_with a j) (open_with a (drawn profile a j)) e in
        let s2 : Core = after_close s1 i a (drawn profile a j) o in
        let l2 : Leaves profile s1 s2 l1.kept (record { keys = j.keys; way = Placed j.part } ∷ []) = close_leaves profile s1 l1.kept i a (drawn profile a j) e1 o refl in
        let same : c.places ≡ s2.places = sym (set_twice b.places i (open_with a (drawn profile a j)) (closed_with a o.answer)) in
        let requested : requested_in c.places ≡ requested_in b.places = requested-set b.places i (open_with a j) (closed_with a o.answer) e refl in
        record {
          begun = begun_still c refl refl requested;
          fits = made_of profile (core_of c) l2.kept.whole s2.places l2.kept.well same l2.kept.maps l2.kept.stand;
          outcome =
              ap (λ (l : List Place). carried_on profile l l2.kept.whole) same
              ∙ l2.same ∙ l1.same ∙ w.outcome
              ∙ still c.places requested;
          back = undone-append b.undo_log (record { keys = j.keys; way = Placed j.part } ∷ []) l2.kept.whole ∙ ap (undone b.undo_log) (l2.back ∙ l1.back) ∙ w.back;
        }

    close_way_as : (r : Profile) → r ≡ profile → IsOnTheWay (closed_as r)
    close_way_as r f = subst (λ (x : Profile). IsOnTheWay (closed_as x)) (sym f) close_way

pub result_way : (b : Seen) (h : Handed) → IsOnTheWay b → HasOpen b h → IsOnTheWay (with_result b h)
result_way b h w o = close_way_as b w h.place h.requested (job_of h) o.stands h.profile o.profile

pub unchanged_way : (b : Seen) (h : Handed) → IsOnTheWay b → HasOpen b h → IsOnTheWay (unchanged b h)
unchanged_way b h w o = return_way b w h.place h.requested (job_of h) o.stands
