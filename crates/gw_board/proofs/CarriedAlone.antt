-- A place is executed alone: nothing is open, and every place before it is closed. It comes to what opening it and closing it with its
-- result comes to.
use Rattle.std.proofs.Common.{◌≡◌, ℕ, zero, suc, Bool, true, false, not, List, [], ◌∷◌, take, drop, None, Some, refl, sym, ap, subst, ◌∙◌}
use Rattle.std.specs.Prelude.{◌||◌, slice_get, slice_set}
use Rattle.std.specs.List.{list_any}
use Rattle.gw_base.specs.declared.key.Key.{Key}
use Rattle.gw_base.specs.Keys.{has}
use Rattle.gw_base.proofs.Booleans.{neither}
use Rattle.gw_reserve.specs.Owned.{AreFreeSlots}
use Rattle.gw_table.specs.Locality.{KeepsTo}
use Rattle.gw_table.specs.Maps.{Maps, Outcome}
use Rattle.gw_table.specs.Parts.{restricted, cut, overlaid}
use Rattle.gw_table.specs.Stored.{Stored}
use Rattle.gw_table.specs.WellFormed.{AreWellFormed}
use Rattle.gw_board.specs.declared.profile.Profile.{Profile}
use Rattle.gw_board.specs.Alone.{is_unclosed_at}
use Rattle.gw_board.specs.BoardView.{IsOnTheWay}
use Rattle.gw_board.specs.Boards.{Seen, Handed, core_of, with_open, with_result, is_closed, is_pending_at, AllClosed}
use Rattle.gw_board.specs.Carried.{BurstRequest, keys_of, done}
use Rattle.gw_board.specs.Core.{Standing, Pending, Opened, Closed, Place, Job, pending, open_with, closed_with, meets_at, meets_any, MayOpen}
use Rattle.gw_board.specs.Fitting.{out, Stands, Beside, Stand}
use Rattle.gw_board.specs.GoingOn.{MayGoOn}
use Rattle.gw_board.specs.Results.{is_open, NothingIsOpen}
use Rattle.gw_board.specs.Texts.{Text}
use Rattle.gw_board.specs.Waves.{is_pending}
use Rattle.gw_board.proofs.Comes.{out_of_none}
use Rattle.gw_board.proofs.Drawing.{set_here}
use Rattle.gw_board.proofs.OnTheWay.{set_twice, open_way, result_way}
use Rattle.gw_board.proofs.Orders.{behind_in}
use Rattle.gw_board.proofs.Outs.{cut_none, laid_on}
use Rattle.gw_board.proofs.Requests.{keeps}
use Rattle.gw_board.proofs.Slices.{parts_at}

-- ---- places

-- closed ones are met by nothing
none_met : (keys : List Key) (m : Maps) (places : List Place) → AllClosed places → meets_any keys m places ≡ false
none_met keys m [] h = refl
none_met keys m (p ∷ ps) h =
    let both = neither (not (is_closed p.standing)) (list_any (λ q. not (is_closed q.standing)) ps) h in
    by p.standing both.0 (none_met keys m ps both.1)
  where
    by : (x : Standing) → not (is_closed x) ≡ false → meets_any keys m ps ≡ false → (meets_at keys m p.requested x || meets_any keys m ps) ≡ false
    by Pending e g = absurd cc
    by (Opened j) e g = absurd cc
    by (Closed reply) e g = g

still_none : (places : List Place) (i : ℕ) (new : Place) → is_open new.standing ≡ false → list_any (λ p. is_open p.standing) places ≡ false → list_any (λ p. is_open p.standing) (slice_set places i new) ≡ false
still_none [] i new e h = refl
still_none (p ∷ ps) zero new e h = ap (λ b. b || list_any (λ q. is_open q.standing) ps) e ∙ (neither (is_open p.standing) (list_any (λ q. is_open q.standing) ps) h).1
still_none (p ∷ ps) (suc i) new e h =
    let both = neither (is_open p.standing) (list_any (λ q. is_open q.standing) ps) h in
    λ k. both.0 k || still_none ps i new e both.1 k

pub closed_more : (places : List Place) (i : ℕ) (new : Place) → is_closed new.standing ≡ true → AllClosed (take i places) → AllClosed (take (suc i) (slice_set places i new))
closed_more [] i new f h = refl
closed_more (q ∷ qs) zero new f h = ap (λ b. not b || false) f
closed_more (q ∷ qs) (suc i) new f h =
    let both = neither (not (is_closed q.standing)) (list_any (λ p. not (is_closed p.standing)) (take i qs)) h in
    λ k. both.0 k || closed_more qs i new f both.1 k

-- one more is closed
pub closed_here : (places : List Place) (i : ℕ) (p : Place) → slice_get places i ≡ Some p → is_closed p.standing ≡ true → AllClosed (take i places) → AllClosed (take (suc i) places)
closed_here [] i p e f h = absurd cc
closed_here (q ∷ qs) zero p e f h = let same : q ≡ p = cc in ap (λ (x : Place). not (is_closed x.standing) || false) same ∙ ap (λ b. not b || false) f
closed_here (q ∷ qs) (suc i) p e f h =
    let both = neither (not (is_closed q.standing)) (list_any (λ x. not (is_closed x.standing)) (take i qs)) h in
    λ k. both.0 k || closed_here qs i p e f both.1 k

-- what is neither closed nor open is pending
pub unclosed_pends : (places : List Place) (i : ℕ) → list_any (λ p. is_open p.standing) places ≡ false → is_unclosed_at (slice_get places i) ≡ true → is_pending_at (slice_get places i) ≡ true
unclosed_pends [] i none h = absurd cc
unclosed_pends (q ∷ qs) zero none h = by q.standing (neither (is_open q.standing) (list_any (λ x. is_open x.standing) qs) none).0 h
  where
    by : (x : Standing) → is_open x ≡ false → not (is_closed x) ≡ true → is_pending x ≡ true
    by Pending f g = refl
    by (Opened j) f g = absurd cc
    by (Closed reply) f g = absurd cc
unclosed_pends (q ∷ qs) (suc i) none h = unclosed_pends qs i (neither (is_open q.standing) (list_any (λ x. is_open x.standing) qs) none).1 h

-- ---- a part that is laid

or_nothing : (b : Bool) → b ≡ (b || false)
or_nothing true = refl
or_nothing false = refl

-- a part laid over the maps without its keys is the part laid over the maps
laid_same : (k : List Key) (p m : Maps) → overlaid k p (cut k m) ≡ overlaid k p m
laid_same k p m = laid_on k [] k p m (λ q. or_nothing (has k q)) (λ q h. refl) ∙ cut_none [] (overlaid k p m) (λ q. refl)

-- nothing is out
pub whole_there : (b : Seen) (w : IsOnTheWay b) → NothingIsOpen (core_of b) → b.maps ≡ w.fits.whole
whole_there b w none = w.fits.maps ∙ cut_none (out b.places) w.fits.whole (out_of_none b.places none)

-- ---- the place

module _ (profile : Profile) (start : Stored) (maps : Maps) (places : List Place) (g : MayGoOn profile start maps places) (i : ℕ) (a : BurstRequest) (pends : slice_get places i ≡ Some (pending a)) where
  abbrev b : Seen
  b = record { profile = profile; start = start; maps = maps; places = places; undo_log = g.undo_log }

  abbrev w : IsOnTheWay b
  w = g.way

  whole_is : maps ≡ w.fits.whole
  whole_is = whole_there b w g.none

  pub well_here : AreWellFormed b.profile.rules.members b.maps
  well_here = subst (AreWellFormed b.profile.rules.members) (sym whole_is) w.fits.well

  pub unused_here : AreFreeSlots b.maps a.owned.slots
  unused_here = subst (λ (n : Maps). AreFreeSlots n a.owned.slots) (sym whole_is)
      (behind_in (Stands b.profile w.fits.whole) (Beside w.fits.whole) (take i b.places) (pending a ∷ drop (suc i) b.places)
      (subst (Stand b.profile w.fits.whole) (parts_at b.places i (pending a) pends) w.fits.stand)).0

  abbrev o : Outcome Text
  o = done b.profile a b.maps

  abbrev closed : Place
  closed = closed_with a o.answer

  alone_none : list_any (λ p. is_open p.standing) (slice_set b.places i closed) ≡ false
  alone_none = still_none b.places i closed refl g.none

  module _ (first : AllClosed (take i b.places)) where
    abbrev keys : List Key
    keys = keys_of a b.maps

    abbrev job : Job
    job = record { keys = keys; part = restricted keys b.maps; result = None }

    abbrev handed : Handed
    handed = record { profile = b.profile; place = i; requested = a; keys = keys; part = restricted keys b.maps }

    may : MayOpen (core_of b) i a keys
    may = record { pends = pends; listed = λ q. refl; free = none_met keys b.maps (take i b.places) first }

    -- the board after opening the place and closing it
    abbrev ended : Seen
    ended = with_result (with_open b i a keys) handed

    way : IsOnTheWay ended
    way = result_way (with_open b i a keys) handed (open_way b w i a keys may) (record { profile = refl; stands = set_here b.places i (pending a) (open_with a job) pends })

    keeping : KeepsTo keys (done b.profile a) b.maps
    keeping = keeps b.profile a b.maps well_here unused_here

    same_outcome : ended.maps ≡ o.maps
    same_outcome = laid_same keys (done b.profile a (restricted keys b.maps)).maps b.maps ∙ keeping.maps

    same_places : ended.places ≡ slice_set b.places i closed
    same_places =
        set_twice b.places i (open_with a job) (closed_with a (done b.profile a (restricted keys b.maps)).answer)
        ∙ ap (λ (r : Text). slice_set b.places i (closed_with a r)) keeping.answer

    is_ended : ended ≡ record { profile = b.profile; start = b.start; maps = o.maps; places = slice_set b.places i closed; undo_log = ended.undo_log }
    is_ended = λ j. record { profile = b.profile; start = b.start; maps = same_outcome j; places = same_places j; undo_log = ended.undo_log }

    -- with the place closed the way goes on, by the undo log that opening and closing it leaves
    pub alone_goes_on : MayGoOn profile start o.maps (slice_set b.places i closed)
    alone_goes_on = record { undo_log = ended.undo_log; way = subst IsOnTheWay is_ended way; none = alone_none }
