-- What a state comes to: with what is out put back the maps are whole, and nothing is left to be put back where nothing is open.
use Rattle.std.proofs.Common.{◌≡◌, ℕ, Bool, true, false, cond, List, [], ◌∷◌, ◌++◌, Option, None, refl, sym, ap, ◌∙◌}
use Rattle.std.specs.Prelude.{◌||◌}
use Rattle.std.specs.List.{list_any}
use Rattle.gw_base.specs.declared.ids.CtxNum.{CtxNum}
use Rattle.gw_board.specs.declared.profile.Profile.{Profile}
use Rattle.gw_base.specs.declared.key.Key.{Key}
use Rattle.gw_base.specs.declared.key.Key.TheVariants.{Term, Ctx}
use Rattle.gw_base.specs.Keys.{has, same_key}
use Rattle.gw_base.proofs.Booleans.{neither}
use Rattle.gw_board.specs.Texts.{Text}
use Rattle.gw_table.specs.Maps.{Maps, Outcome, term, ctx}
use Rattle.gw_table.specs.Parts.{cut}
use Rattle.gw_table.specs.Unused.{AreUnused}
use Rattle.gw_table.specs.WellFormed.{AreWellFormed}
use Rattle.gw_table.proofs.Lookups.{same_maps}
use Rattle.gw_table.proofs.PartLookups.{term-restricted, ctx-restricted, term-cut, ctx-cut, term-overlaid, ctx-overlaid}
use Rattle.gw_board.specs.Carried.{BurstRequest, carried}
use Rattle.gw_board.specs.Core.{Standing, Pending, Opened, Closed, Place, Core, start, Event, Events}
use Rattle.gw_board.specs.UndoLog.{undo_step_of, undo_log_of, undone}
use Rattle.gw_board.specs.Results.{is_open, NothingIsOpen, part_back, all_back, carried_at, carried_on, result_of, AreClosed, slots_of}
use Rattle.gw_board.proofs.Orders.{each_in}
use Rattle.gw_board.proofs.Outs.{any-append, cut_none}
use Rattle.gw_board.proofs.Started.{carried_start}
use Rattle.gw_board.proofs.Steps.{Leaves, step_leaves, steps_leave, kept_start}
use Rattle.gw_board.specs.Fitting.{Each, out_at, out, Fits, Stands, Beside, FitsTogether}

module _ {X : Type 0} where
  put : (b c : Bool) (x y : Option X) → cond b (cond b x None) (cond c x y) ≡ cond (b || c) x y
  put true c x y = refl
  put false c x y = refl

  all_put : (b : Bool) (x : Option X) → cond b x (cond b None x) ≡ x
  all_put true x = refl
  all_put false x = refl

module _ (profile : Profile) (m n : Maps) where
  -- what is read at a key, by whether it was out
  terms_at : (a : BurstRequest) (x : Standing) (o : List Key) (later : Maps) → Fits profile a m x → ((q : List ℕ) → term later q ≡ cond (has o (Term q)) (term m q) (term n q)) → (q : List ℕ) → term (part_back x later) q ≡ cond (has (out_at x ++ o) (Term q)) (term m q) (term n q)
  terms_at a Pending o later f h q = h q
  terms_at a (Closed reply) o later f h q = h q
  terms_at a (Opened j) o later f h q =
      term-overlaid j.keys j.part later q
      ∙ ap (λ (p : Maps). cond (has j.keys (Term q)) (term p q) (term later q)) f.1.part
      ∙ (λ i. cond (has j.keys (Term q)) (term-restricted j.keys m q i) (h q i))
      ∙ put (has j.keys (Term q)) (has o (Term q)) (term m q) (term n q)
      ∙ ap (λ b. cond b (term m q) (term n q)) (sym (any-append (same_key (Term q)) j.keys o))

  ctxs_at : (a : BurstRequest) (x : Standing) (o : List Key) (later : Maps) → Fits profile a m x → ((q : CtxNum) → ctx later q ≡ cond (has o (Ctx q)) (ctx m q) (ctx n q)) → (q : CtxNum) → ctx (part_back x later) q ≡ cond (has (out_at x ++ o) (Ctx q)) (ctx m q) (ctx n q)
  ctxs_at a Pending o later f h q = h q
  ctxs_at a (Closed reply) o later f h q = h q
  ctxs_at a (Opened j) o later f h q =
      ctx-overlaid j.keys j.part later q
      ∙ ap (λ (p : Maps). cond (has j.keys (Ctx q)) (ctx p q) (ctx later q)) f.1.part
      ∙ (λ i. cond (has j.keys (Ctx q)) (ctx-restricted j.keys m q i) (h q i))
      ∙ put (has j.keys (Ctx q)) (has o (Ctx q)) (ctx m q) (ctx n q)
      ∙ ap (λ b. cond b (ctx m q) (ctx n q)) (sym (any-append (same_key (Ctx q)) j.keys o))

  terms_back : (places : List Place) → Each (Stands profile m) places → (q : List ℕ) → term (all_back places n) q ≡ cond (has (out places) (Term q)) (term m q) (term n q)
  terms_back [] h q = refl
  terms_back (p ∷ ps) h q = terms_at p.requested p.standing (out ps) (all_back ps n) h.0 (terms_back ps h.1) q

  ctxs_back : (places : List Place) → Each (Stands profile m) places → (q : CtxNum) → ctx (all_back places n) q ≡ cond (has (out places) (Ctx q)) (ctx m q) (ctx n q)
  ctxs_back [] h q = refl
  ctxs_back (p ∷ ps) h q = ctxs_at p.requested p.standing (out ps) (all_back ps n) h.0 (ctxs_back ps h.1) q

whole_back : (profile : Profile) (places : List Place) (m : Maps) → Each (Stands profile m) places → all_back places (cut (out places) m) ≡ m
whole_back profile places m h = same_maps (all_back places (cut (out places) m)) m
    (λ q. terms_back profile m (cut (out places) m) places h q ∙ ap (cond (has (out places) (Term q)) (term m q)) (term-cut (out places) m q) ∙ all_put (has (out places) (Term q)) (term m q))
    (λ q. ctxs_back profile m (cut (out places) m) places h q ∙ ap (cond (has (out places) (Ctx q)) (ctx m q)) (ctx-cut (out places) m q) ∙ all_put (has (out places) (Ctx q)) (ctx m q))

pub result_kept : (profile : Profile) (s : Core) (k : FitsTogether profile s) → result_of profile s ≡ carried_on profile s.places k.whole
result_kept profile s k =
    ap (carried_on profile s.places) (ap (all_back s.places) k.maps ∙ whole_back profile s.places k.whole (each_in (Stands profile k.whole) (Beside k.whole) s.places k.stand))

pub results_are : (profile : Profile) (workers : ℕ) (requested : List BurstRequest) (m : Maps) (s : Core) → AreWellFormed profile.rules.members m → AreUnused m [] (slots_of requested) → Events profile (start workers requested m) s → result_of profile s ≡ carried profile requested m
results_are profile workers requested m s w u events =
    let k : FitsTogether profile (start workers requested m) = kept_start profile workers requested m w u in
    let l : Leaves profile (start workers requested m) s k (undo_log_of events) = steps_leave profile (start workers requested m) s k events in
    result_kept profile s l.kept ∙ l.same ∙ carried_start profile requested m

-- ---- where nothing is open

back_at : (x : Standing) (m : Maps) → is_open x ≡ false → part_back x m ≡ m
back_at Pending m h = refl
back_at (Opened j) m h = absurd cc
back_at (Closed reply) m h = refl

nothing_back : (places : List Place) (m : Maps) → list_any (λ p. is_open p.standing) places ≡ false → all_back places m ≡ m
nothing_back [] m h = refl
nothing_back (p ∷ ps) m h = let both = neither (is_open p.standing) (list_any (λ p. is_open p.standing) ps) h in back_at p.standing (all_back ps m) both.0 ∙ nothing_back ps m both.1

pub nothing_open : (profile : Profile) (s : Core) → NothingIsOpen s → result_of profile s ≡ carried_on profile s.places s.maps
nothing_open profile s h = ap (carried_on profile s.places) (nothing_back s.places s.maps h)

-- ---- where every place is closed

pub closed_ones : (places : List Place) (replies : List Text) → AreClosed places replies → list_any (λ p. is_open p.standing) places ≡ false
closed_ones [] replies e = refl
closed_ones (p ∷ ps) [] e = absurd cc
closed_ones (p ∷ ps) (r ∷ rs) e =
    let first : p.standing ≡ Closed r = cc in
    let later : AreClosed ps rs = cc in
    ap (λ (x : Standing). is_open x || list_any (λ p. is_open p.standing) ps) first ∙ closed_ones ps rs later

closed_on : (profile : Profile) (places : List Place) (replies : List Text) (m : Maps) → AreClosed places replies → carried_on profile places m ≡ record { maps = m; answer = replies }
closed_on profile [] [] m e = refl
closed_on profile [] (r ∷ rs) m e = absurd cc
closed_on profile (p ∷ ps) [] m e = absurd cc
closed_on profile (p ∷ ps) (r ∷ rs) m e =
    let first : p.standing ≡ Closed r = cc in
    let later : AreClosed ps rs = cc in
    ap (λ (x : Standing). let now : Outcome Text = carried_at profile p.requested x m in let rest : Outcome (List Text) = carried_on profile ps now.maps in record { maps = rest.maps; answer = now.answer ∷ rest.answer }) first
    ∙ ap (λ (o : Outcome (List Text)). record { maps = o.maps; answer = r ∷ o.answer }) (closed_on profile ps rs m later)

pub all_closed : (profile : Profile) (s : Core) (replies : List Text) → AreClosed s.places replies → result_of profile s ≡ record { maps = s.maps; answer = replies }
all_closed profile s replies e = nothing_open profile s (closed_ones s.places replies e) ∙ closed_on profile s.places replies s.maps e

-- ---- the way back

pub out_of_none : (places : List Place) → list_any (λ p. is_open p.standing) places ≡ false → (q : Key) → has (out places) q ≡ false
out_of_none [] h q = refl
out_of_none (p ∷ ps) h q =
    let both = neither (is_open p.standing) (list_any (λ p. is_open p.standing) ps) h in
    any-append (same_key q) (out_at p.standing) (out ps) ∙ ap (λ b. b || has (out ps) q) (by p.standing both.0) ∙ out_of_none ps both.1 q
  where
    by : (x : Standing) → is_open x ≡ false → has (out_at x) q ≡ false
    by Pending e = refl
    by (Opened j) e = absurd cc
    by (Closed reply) e = refl

pub undone_is : (profile : Profile) (workers : ℕ) (requested : List BurstRequest) (m : Maps) (s : Core) → AreWellFormed profile.rules.members m → AreUnused m [] (slots_of requested) → (events : Events profile (start workers requested m) s) → NothingIsOpen s → undone (undo_log_of events) s.maps ≡ m
undone_is profile workers requested m s w u events h =
    let k : FitsTogether profile (start workers requested m) = kept_start profile workers requested m w u in
    let l : Leaves profile (start workers requested m) s k (undo_log_of events) = steps_leave profile (start workers requested m) s k events in
    ap (undone (undo_log_of events)) (l.kept.maps ∙ cut_none (out s.places) l.kept.whole (out_of_none s.places h)) ∙ l.back

-- ---- one event

pub fits_on : (profile : Profile) (s t : Core) → FitsTogether profile s → Event profile s t → FitsTogether profile t
fits_on profile s t k event = (step_leaves profile s t k event).kept

pub comes_to_the_same : (profile : Profile) (s t : Core) → FitsTogether profile s → Event profile s t → result_of profile t ≡ result_of profile s
comes_to_the_same profile s t k event =
    let l : Leaves profile s t k (undo_step_of event) = step_leaves profile s t k event in
    result_kept profile t l.kept ∙ l.same ∙ sym (result_kept profile s k)
