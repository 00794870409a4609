-- Places are carried out one after another on a draft of whole tables: nothing is open, and the draft has the maps of a board on its way.
use Rattle.std.proofs.Common.{◌≡◌, ◌≤◌, ◌+◌, ℕ, zero, suc, Bool, true, false, cond, not, List, [], ◌∷◌, ◌++◌, map, take, drop, refl, sym, ap, ◌∙◌, arith, add-one}
use Rattle.std.specs.Prelude.{◌||◌, slice_get}
use Rattle.std.specs.List.{list_any}
use Rattle.gw_base.specs.declared.key.Key.{Key}
use Rattle.gw_base.proofs.Booleans.{neither}
use Rattle.gw_table.specs.Maps.{Maps}
use Rattle.gw_table.specs.Parts.{PartKeys, Parted, Over, start_of}
use Rattle.gw_table.specs.Stored.{Stored, maps_of}
use Rattle.gw_table.specs.WellFormed.{AreWellFormed}
use Rattle.gw_tx.specs.Footprints.{Covers}
use Rattle.gw_board.specs.declared.profile.Profile.{Profile}
use Rattle.gw_board.specs.BoardView.{IsOnTheWay}
use Rattle.gw_board.specs.Boards.{Seen, core_of, is_closed, is_pending_at, AllClosed, unclosed}
use Rattle.gw_board.specs.Carried.{BurstRequest}
use Rattle.gw_board.specs.Core.{Standing, Pending, Opened, Closed, Place, pending}
use Rattle.gw_board.specs.GoingOn.{MayGoOn}
use Rattle.gw_board.specs.UndoLog.{UndoStep, led as led_to, undone}
use Rattle.gw_board.specs.Results.{is_open, NothingIsOpen}
use Rattle.gw_board.specs.Waves.{is_pending}
use Rattle.gw_board.proofs.CarriedAlone.{whole_there}
use Rattle.gw_board.proofs.Steps.{undone-append}

-- ---- how many are not closed

-- as many as behind those that all are
pub left_behind : (places : List Place) (n : ℕ) → AllClosed (take n places) → unclosed places ≡ unclosed (drop n places)
left_behind places zero h = refl
left_behind [] (suc n) h = refl
left_behind (p ∷ ps) (suc n) h = let both = neither (not (is_closed p.standing)) (list_any (λ q. not (is_closed q.standing)) (take n ps)) h in by (is_closed p.standing) both.0 (left_behind ps n both.1)
  where
    by : (b : Bool) → not b ≡ false → unclosed ps ≡ unclosed (drop n ps) → cond b (unclosed ps) (suc (unclosed ps)) ≡ unclosed (drop n ps)
    by true e l = l
    by false e l = absurd cc

-- one more than behind the first of them
pub first_left : (places : List Place) (i : ℕ) → AllClosed (take i places) → is_pending_at (slice_get places i) ≡ true → unclosed (drop (i + 1) places) + 1 ≡ unclosed places
first_left places i h pends = ap (λ n. unclosed (drop n places) + 1) (add-one i) ∙ add-one (unclosed (drop (suc i) places)) ∙ sym (left_behind places i h ∙ here places i pends)
  where
    by : (x : Standing) (n : ℕ) → is_pending x ≡ true → cond (is_closed x) n (suc n) ≡ suc n
    by Pending n e = refl
    by (Opened j) n e = refl
    by (Closed reply) n e = absurd cc

    here : (l : List Place) (k : ℕ) → is_pending_at (slice_get l k) ≡ true → unclosed (drop k l) ≡ suc (unclosed (drop (suc k) l))
    here [] k e = absurd cc
    here (q ∷ qs) zero e = by q.standing (unclosed qs) e
    here (q ∷ qs) (suc k) e = here qs k e

-- no more than behind an earlier place
pub fewer_behind : (places : List Place) (m n : ℕ) → m ≤ n → unclosed (drop n places) ≤ unclosed (drop m places)
fewer_behind [] zero zero l = omega arith
fewer_behind [] zero (suc n) l = omega arith
fewer_behind [] (suc m) zero l = omega arith
fewer_behind [] (suc m) (suc n) l = omega arith
fewer_behind (p ∷ ps) zero zero l = omega arith
fewer_behind (p ∷ ps) (suc m) zero l = absurd (omega arith)
fewer_behind (p ∷ ps) zero (suc n) l = grind (arith, fewer_behind ps 0 n (omega arith))
fewer_behind (p ∷ ps) (suc m) (suc n) l = fewer_behind ps m n (omega arith)

-- ---- a draft

-- a draft of whole tables covers whatever is needed
pub covers_over : (limit : ℕ) (p : Parted) (s : Stored) → p.keys ≡ Over s → AreWellFormed limit p.maps → (needed : List Key) → Covers p needed
covers_over limit p s e well needed = grind arith

-- it begins at the tables that it was made of
pub begun_at : {tables s : Stored} → s ≡ tables → {first : Parted} {keys : PartKeys} → first ≡ record { keys = Over s; maps = maps_of s } → keys ≡ first.keys → start_of keys ≡ tables
begun_at is made same = ap start_of (same ∙ ap (λ (p : Parted). p.keys) made) ∙ is

-- what is neither pending nor open is closed
settled : (x : Standing) → is_open x ≡ false → is_pending x ≡ false → is_closed x ≡ true
settled x e f = grind arith

-- a place that is passed by
pub passed_closed : (places : List Place) (i : ℕ) → list_any (λ p. is_open p.standing) places ≡ false → is_pending_at (slice_get places i) ≡ false → AllClosed (take i places) → AllClosed (take (suc i) places)
passed_closed [] i none off h = refl
passed_closed (q ∷ qs) zero none off h = ap (λ b. not b || false) (settled q.standing (neither (is_open q.standing) (list_any (λ p. is_open p.standing) qs) none).0 off)
passed_closed (q ∷ qs) (suc i) none off h =
    let both = neither (not (is_closed q.standing)) (list_any (λ p. not (is_closed p.standing)) (take i qs)) h in
    λ k. both.0 k || passed_closed qs i (neither (is_open q.standing) (list_any (λ p. is_open p.standing) qs) none).1 off both.1 k

-- nothing is open where all are pending
pub none_pending : (requested : List BurstRequest) → list_any (λ p. is_open p.standing) (map pending requested) ≡ false
none_pending [] = refl
none_pending (a ∷ more) = none_pending more

-- the undo log leads from the maps to those of the start
pub led_from : (b : Seen) (w : IsOnTheWay b) → NothingIsOpen (core_of b) → undone b.undo_log b.maps ≡ (maps_of b.start)
led_from b w none = ap (undone b.undo_log) (whole_there b w none) ∙ w.back

module _ (profile : Profile) (start : Stored) (maps : Maps) (places : List Place) (g : MayGoOn profile start maps places) where
  abbrev b : Seen
  b = record { profile = profile; start = start; maps = maps; places = places; undo_log = g.undo_log }

  -- any other undo log that leads back is as good
  pub with_undo_log : (undo_log : List UndoStep) → undone undo_log maps ≡ maps_of start → IsOnTheWay (record { profile = profile; start = start; maps = maps; places = places; undo_log = undo_log })
  with_undo_log undo_log led = record {
    begun = record { well = g.way.begun.well; unused = g.way.begun.unused };
    fits = g.way.fits;
    outcome = g.way.outcome;
    back = ap (undone undo_log) (sym (whole_there b g.way g.none)) ∙ led;
  }

-- the last original leads to maps that those before it lead on from
pub led_behind : (front : List UndoStep) (last : UndoStep) (m n begun : Maps) → led_to last m ≡ n → undone front n ≡ begun → undone (front ++ last ∷ []) m ≡ begun
led_behind front last m n begun e f = undone-append front (last ∷ []) m ∙ ap (undone front) e ∙ f
