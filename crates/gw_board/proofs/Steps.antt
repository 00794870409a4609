-- Each lawful event leaves what a state comes to.
use Rattle.std.proofs.Common.{◌≡◌, ℕ, suc, false, List, [], ◌∷◌, ◌++◌, take, drop, None, Some, refl, sym, ap, subst, ◌∙◌}
use Rattle.std.specs.Prelude.{slice_get, slice_set}
use Rattle.gw_board.specs.declared.profile.Profile.{Profile}
use Rattle.gw_base.specs.declared.key.Key.{Key}
use Rattle.gw_board.specs.Texts.{Text}
use Rattle.gw_table.specs.Maps.{Maps, Outcome}
use Rattle.gw_table.specs.Parts.{restricted, cut, overlaid}
use Rattle.gw_table.specs.Unused.{AreUnused}
use Rattle.gw_table.specs.WellFormed.{AreWellFormed}
use Rattle.gw_foot.specs.OwnsUnused.{OwnOthers}
use Rattle.gw_board.specs.Carried.{BurstRequest, keys_of, done}
use Rattle.gw_board.specs.Core.{Standing, Pending, Opened, Closed, Place, Job, Core, pending, open_with, closed_with, start, meets_any, MayOpen, after_open, drawn, after_draw, after_close, after_return, Event, Open, Draw, Close, Return, Events, none, more}
use Rattle.gw_board.specs.UndoLog.{UndoStep, Placed, led, undo_step_of, undo_log_of, undone}
use Rattle.gw_board.specs.Results.{carried_at, carried_on, slots_of}
use Rattle.gw_board.proofs.Closing.{job_here, drawn_stand, back_stand, back_maps, closed_stand, closed_answer, closed_maps, closed_back}
use Rattle.gw_board.proofs.FirstOfAll.{MayWait, Waits, goes_first}
use Rattle.gw_board.proofs.Opening.{clear, open_maps, open_stand}
use Rattle.gw_board.proofs.Orders.{front_in, earlier_in, in_order_on}
use Rattle.gw_board.proofs.Outs.{SameKeys, Clear, clear_same, apart_right}
use Rattle.gw_board.proofs.Requests.{well_after}
use Rattle.gw_board.proofs.Slices.{parts_at, parts_set}
use Rattle.gw_board.proofs.Started.{stand_start, start_maps}
use Rattle.gw_board.specs.Fitting.{Each, InOrder, out_at, out, Fits, Stands, Differ, UnlessClosed, KeepsApart, Beside, Stand, FitsTogether}

-- so they are after events, which come to the same, and with the originals laid back they are what they were
pub record Leaves (profile : Profile) (s t : Core) (k : FitsTogether profile s) (undo_log : List UndoStep) : Type 0 where
  pub kept : FitsTogether profile t
  pub back : undone undo_log kept.whole ≡ k.whole
  pub same : carried_on profile t.places kept.whole ≡ carried_on profile s.places k.whole

-- where the state is said otherwise
abbrev pub made_of : (profile : Profile) (t : Core) (m : Maps) (places : List Place) → AreWellFormed profile.rules.members m → t.places ≡ places → t.maps ≡ cut (out places) m → Stand profile m places → FitsTogether profile t
made_of profile t m places w p e st = record { whole = m; well = w; maps = e ∙ ap (λ l. cut (out l) m) (sym p); stand = subst (Stand profile m) (sym p) st }

-- ---- places of which one is as another

out_alike : (x y : Place) → out_at x.standing ≡ out_at y.standing → (before after : List Place) → out (before ++ x ∷ after) ≡ out (before ++ y ∷ after)
out_alike x y e [] after = ap (λ l. l ++ out after) e
out_alike x y e (p ∷ ps) after = ap (λ l. out_at p.standing ++ l) (out_alike x y e ps after)

abbrev onward : Profile → List Place → Outcome Text → Outcome (List Text)
onward profile ps o = let later = carried_on profile ps o.maps in record { maps = later.maps; answer = o.answer ∷ later.answer }

carried_alike : (profile : Profile) (x y : Place) → ((n : Maps) → carried_at profile x.requested x.standing n ≡ carried_at profile y.requested y.standing n) → (before after : List Place) (n : Maps) → carried_on profile (before ++ x ∷ after) n ≡ carried_on profile (before ++ y ∷ after) n
carried_alike profile x y f [] after n = ap (onward profile after) (f n)
carried_alike profile x y f (p ∷ ps) after n =
    let now : Outcome Text = carried_at profile p.requested p.standing n in
    ap (λ (o : Outcome (List Text)). record { maps = o.maps; answer = now.answer ∷ o.answer }) (carried_alike profile x y f ps after now.maps)

-- ---- a request that may be closed may go first

module _ (profile : Profile) (m : Maps) (a : BurstRequest) (j : Job) (before after : List Place) (h : Stand profile m (before ++ open_with a j ∷ after)) where
  waits_at : (b : BurstRequest) (y : Standing) → OwnOthers b.owned.slots a.owned.slots → Fits profile b m y → KeepsApart b m y (Opened j) → UnlessClosed y (MayWait a m b)
  waits_at b Pending o f g = record { free = f; others = o; apart = apart_right (keys_of b m) j.keys (keys_of a m) (job_here profile m a j before after h).1.keys g }
  waits_at b (Opened k) o f g = record { free = f.0; others = o; apart = apart_right (keys_of b m) j.keys (keys_of a m) (job_here profile m a j before after h).1.keys g }
  waits_at b (Closed reply) o f g = tt

  all_before : Each (λ y. Beside m y (open_with a j)) before
  all_before = earlier_in (Stands profile m) (Beside m) before after (open_with a j) h

  all_wait : InOrder (Waits a m) Differ before
  all_wait = in_order_on (Stands profile m) (Waits a m) (Beside m) Differ (λ y. Beside m y (open_with a j))
      (λ y r f. waits_at y.requested y.standing r.differ f r.apart) (λ y z r q g. g.differ) before all_before (front_in (Stands profile m) (Beside m) before (open_with a j ∷ after) h)

  pub closed_same : AreWellFormed profile.rules.members m → (reply : Text) → reply ≡ (done profile a m).answer → carried_on profile (before ++ closed_with a reply ∷ after) (done profile a m).maps ≡ carried_on profile (before ++ open_with a j ∷ after) m
  closed_same w reply e =
      ap (λ r. carried_on profile (before ++ closed_with a r ∷ after) (done profile a m).maps) e
      ∙ sym (goes_first profile a after before m w (job_here profile m a j before after h).0 all_wait)
      ∙ carried_alike profile (pending a) (open_with a j) (λ n. refl) before after m

-- ---- events

module _ (profile : Profile) (s : Core) (k : FitsTogether profile s) (i : ℕ) (a : BurstRequest) where
  abbrev m : Maps
  m = k.whole

  abbrev before : List Place
  before = take i s.places

  abbrev after : List Place
  after = drop (suc i) s.places

  module _ (x : Place) (e : slice_get s.places i ≡ Some x) where
    here : s.places ≡ before ++ x ∷ after
    here = parts_at s.places i x e

    standing : Stand profile m (before ++ x ∷ after)
    standing = subst (Stand profile m) here k.stand

    maps_here : s.maps ≡ cut (out (before ++ x ∷ after)) m
    maps_here = k.maps ∙ ap (λ l. cut (out l) m) here

    there : (new : Place) → slice_set s.places i new ≡ before ++ new ∷ after
    there new = parts_set s.places i x new e

    -- another that is carried out as it is
    alike : (new : Place) → ((n : Maps) → carried_at profile new.requested new.standing n ≡ carried_at profile x.requested x.standing n) → carried_on profile (slice_set s.places i new) m ≡ carried_on profile s.places m
    alike new f = ap (λ l. carried_on profile l m) (there new) ∙ carried_alike profile new x f before after m ∙ ap (λ l. carried_on profile l m) (sym here)

  abbrev job_in : List Key → Maps → Job
  job_in keys n = record { keys = keys; part = restricted keys n; result = None }

  pub open_leaves : (keys : List Key) → MayOpen s i a keys → Leaves profile s (after_open s i a keys) k []
  open_leaves keys o =
      let now : Maps = cut (out (before ++ pending a ∷ after)) m in
      let is : s.maps ≡ now = maps_here (pending a) o.pends in
      let free : meets_any (keys_of a now) now before ≡ false = subst (λ n. meets_any (keys_of a n) n before ≡ false) is o.free in
      let st : Stand profile m (before ++ pending a ∷ after) = standing (pending a) o.pends in
      let listed : SameKeys keys (keys_of a now) = subst (λ n. SameKeys keys (keys_of a n)) is o.listed in
      record {
        kept = made_of profile (after_open s i a keys) m (before ++ open_with a (job_in keys now) ∷ after) k.well
            (there (pending a) o.pends (open_with a (job_in keys s.maps)) ∙ ap (λ n. before ++ open_with a (job_in keys n) ∷ after) is)
            (ap (cut keys) is ∙ open_maps profile m k.well a before after st free keys listed)
            (open_stand profile m k.well a before after st free keys listed);
        back = refl;
        same = alike (pending a) o.pends (open_with a (job_in keys s.maps)) (λ n. refl);
      }

  -- nothing that is out is among the keys of a place that may be opened
  pub open_clear : (keys : List Key) → MayOpen s i a keys → Clear keys (out s.places)
  open_clear keys o =
      let now : Maps = cut (out (before ++ pending a ∷ after)) m in
      let is : s.maps ≡ now = maps_here (pending a) o.pends in
      let free : meets_any (keys_of a now) now before ≡ false = subst (λ n. meets_any (keys_of a n) n before ≡ false) is o.free in
      let st : Stand profile m (before ++ pending a ∷ after) = standing (pending a) o.pends in
      let listed : SameKeys keys (keys_of a now) = subst (λ n. SameKeys keys (keys_of a n)) is o.listed in
      subst (λ (l : List Place). Clear keys (out l)) (sym (here (pending a) o.pends))
      (clear_same (keys_of a now) keys (out (before ++ pending a ∷ after)) (λ q. sym (listed q)) (clear profile m k.well a before after st free))

  module _ (j : Job) (e : slice_get s.places i ≡ Some (open_with a j)) where
    pub here_stand : Stand profile m (before ++ open_with a j ∷ after)
    here_stand = standing (open_with a j) e

    pub draw_leaves : (worker : ℕ) → Leaves profile s (after_draw profile s worker i a j) k []
    draw_leaves worker = record {
      kept = made_of profile (after_draw profile s worker i a j) m (before ++ open_with a (drawn profile a j) ∷ after) k.well
          (there (open_with a j) e (open_with a (drawn profile a j)))
          (maps_here (open_with a j) e ∙ ap (λ l. cut l m) (out_alike (open_with a j) (open_with a (drawn profile a j)) refl before after))
          (drawn_stand profile m a j before after here_stand);
      back = refl;
      same = alike (open_with a j) e (open_with a (drawn profile a j)) (λ n. refl);
    }

    pub return_leaves : Leaves profile s (after_return s i a j) k []
    return_leaves = record {
      kept = made_of profile (after_return s i a j) m (before ++ pending a ∷ after) k.well
          (there (open_with a j) e (pending a))
          (ap (overlaid j.keys j.part) (maps_here (open_with a j) e) ∙ back_maps profile m a j before after here_stand)
          (back_stand profile m a j before after here_stand);
      back = refl;
      same = alike (open_with a j) e (pending a) (λ n. refl);
    }

    pub close_leaves : (o : Outcome Text) → j.result ≡ Some o → Leaves profile s (after_close s i a j o) k (record { keys = j.keys; way = Placed j.part } ∷ [])
    close_leaves o d = record {
      kept = made_of profile (after_close s i a j o) (done profile a m).maps (before ++ closed_with a o.answer ∷ after) (well_after profile a m k.well (job_here profile m a j before after here_stand).0)
          (there (open_with a j) e (closed_with a o.answer))
          (ap (overlaid j.keys o.maps) (maps_here (open_with a j) e) ∙ closed_maps profile m a j before after here_stand k.well o d)
          (closed_stand profile m a j before after here_stand k.well o.answer);
      back = closed_back profile m a j before after here_stand k.well;
      same =
          ap (λ l. carried_on profile l (done profile a m).maps) (there (open_with a j) e (closed_with a o.answer))
          ∙ closed_same profile m a j before after here_stand k.well o.answer (closed_answer profile m a j before after here_stand k.well o d)
          ∙ ap (λ l. carried_on profile l m) (sym (here (open_with a j) e));
    }

pub step_leaves : (profile : Profile) (s t : Core) (k : FitsTogether profile s) (e : Event profile s t) → Leaves profile s t k (undo_step_of e)
step_leaves profile s t k (Open i a keys o e) = subst (λ u. Leaves profile s u k []) (sym e) (open_leaves profile s k i a keys o)
step_leaves profile s t k (Draw worker i a j d e) = subst (λ u. Leaves profile s u k []) (sym e) (draw_leaves profile s k i a j d.stands worker)
step_leaves profile s t k (Close i a j o c e) = subst (λ u. Leaves profile s u k (record { keys = j.keys; way = Placed j.part } ∷ [])) (sym e) (close_leaves profile s k i a j c.stands o c.drawn)
step_leaves profile s t k (Return i a j r e) = subst (λ u. Leaves profile s u k []) (sym e) (return_leaves profile s k i a j r.stands)

pub undone-append : (front later : List UndoStep) (m : Maps) → undone (front ++ later) m ≡ undone front (undone later m)
undone-append [] later m = refl
undone-append (o ∷ os) later m = ap (led o) (undone-append os later m)

pub steps_leave : (profile : Profile) (s t : Core) (k : FitsTogether profile s) (es : Events profile s t) → Leaves profile s t k (undo_log_of es)
steps_leave profile s t k none = record { kept = k; back = refl; same = refl }
steps_leave profile s t k (more {t = u} event later) =
    let now : Leaves profile s u k (undo_step_of event) = step_leaves profile s u k event in
    let rest : Leaves profile u t now.kept (undo_log_of later) = steps_leave profile u t now.kept later in
    record {
      kept = rest.kept;
      back = undone-append (undo_step_of event) (undo_log_of later) rest.kept.whole ∙ ap (undone (undo_step_of event)) rest.back ∙ now.back;
      same = rest.same ∙ now.same;
    }

-- ---- what a state comes to

abbrev pub kept_start : (profile : Profile) (workers : ℕ) (requested : List BurstRequest) (m : Maps) → AreWellFormed profile.rules.members m → AreUnused m [] (slots_of requested) → FitsTogether profile (start workers requested m)
kept_start profile workers requested m w u = record { whole = m; well = w; maps = start_maps requested m; stand = stand_start profile m requested u }
