-- Tables that are changed in place, with one more write.
use Rattle.std.proofs.Common.{nat_eq, ◌≡◌, ℕ, Bool, true, false, cond, List, [], ◌∷◌, ◌++◌, bytes_eq, Option, None, Some, Result, Ok, Err, is_some, refl, sym, ap, subst, ◌∙◌}
use Rattle.std.specs.Prelude.{◌||◌}
use Rattle.std.specs.FinMap as finite
use Rattle.gw_base.specs.declared.ids.CtxNum.{CtxNum}
use Rattle.gw_base.specs.declared.key.Key.{Key}
use Rattle.gw_base.specs.declared.key.Key.TheVariants.{Term, Ctx, Whole}
use Rattle.gw_base.specs.Keys.{same_key, has}
use Rattle.gw_term.specs.declared.record.Termination.{Termination}
use Rattle.gw_ctx.specs.Contexts.{ContextRecord, joined}
use Rattle.gw_table.specs.declared.undo_log.Write.{Write}
use Rattle.gw_table.specs.declared.undo_log.Write.TheVariants.{OfTerm, OfCtx}
use Rattle.gw_table.specs.declared.place.Place.{Place}
use Rattle.gw_table.specs.declared.place.Place.TheVariants.{Empty, Here, Out}
use Rattle.gw_table.specs.declared.row.Found.{Found}
use Rattle.gw_table.specs.declared.row.Found.TheVariants.{Logged, Unlogged}
use Rattle.gw_table.specs.Found.{IsFound}
use Rattle.gw_table.specs.Joining.{HasJoined, HasJoinedAt, with_member_if}
use Rattle.std.specs.Result.{IfOk, OnErr}
use Rattle.gw_base.specs.declared.fault.NoMemory.{NoMemory}
use Rattle.gw_table.specs.Maps.{term, ctx, put_ctx, context_of}
use Rattle.gw_table.specs.UndoLog.{keys_written, undone, IsInPlace}
use Rattle.gw_table.specs.Stored.{Stored, visible, has_left, maps_of, is_ready, put_term_place, put_ctx_place, AreReady, KeepReady, NoOtherReady}
use Rattle.gw_table.proofs.Moved.{has-pushed}
use Rattle.gw_base.proofs.NameTests.{same_name, same_number}
use Rattle.gw_base.proofs.NamesInLists.{or_left}
use Rattle.gw_table.proofs.Places.{same_ctx_place, same_stored, ctx-maps_of, got_term, got_ctx, maps-put_term_place, maps-put_ctx_place, in-put_term, in-put_ctx}
use Rattle.gw_table.proofs.Undone.{keys_more, undone_term, undone_ctx, undone_term_again, undone_ctx_again}

pub same_in_place : (start old now : Stored) (ws vs : List Write) → now ≡ old → vs ≡ ws → IsInPlace start old ws → IsInPlace start now vs
same_in_place start old now ws vs e f i = subst (λ (s : Stored). IsInPlace start s vs) (sym e) (subst (λ (l : List Write). IsInPlace start old l) (sym f) i)

-- ---- a place that is written is there, and so is each that was

there : {A : Type 0} (b : Bool) (p : A) (o : Option A) → is_some o ≡ true → is_some (cond b (Some p) o) ≡ true
there true p o h = refl
there false p o h = h

at_it : {A : Type 0} (b : Bool) (p : A) (o : Option A) → b ≡ true → is_some (cond b (Some p) o) ≡ true
at_it true p o h = refl
at_it false p o h = absurd cc

pub keep-put_term : (s : Stored) (t : List ℕ) (p : Place Termination) → KeepReady s (put_term_place s t p)
keep-put_term s t p (Term q) h = ap (λ o. is_some o) (got_term s t p q) ∙ there (bytes_eq q t) p (finite.get s.terms q) h
keep-put_term s t p (Ctx n) h = h
keep-put_term s t p Whole h = refl

pub keep-put_ctx : (s : Stored) (n : CtxNum) (p : Place ContextRecord) → KeepReady s (put_ctx_place s n p)
keep-put_ctx s n p (Term q) h = h
keep-put_ctx s n p (Ctx q) h = ap (λ o. is_some o) (got_ctx s n p q) ∙ there (nat_eq q.0 n.0) p (finite.get s.contexts q.0) h
keep-put_ctx s n p Whole h = refl

made-put_term : (s : Stored) (t : List ℕ) (p : Place Termination) (k : Key) → same_key k (Term t) ≡ true → is_ready (put_term_place s t p) k ≡ true
made-put_term s t p (Term q) h = ap (λ o. is_some o) (got_term s t p q) ∙ at_it (bytes_eq q t) p (finite.get s.terms q) h
made-put_term s t p (Ctx n) h = absurd cc
made-put_term s t p Whole h = absurd cc

made-put_ctx : (s : Stored) (n : CtxNum) (p : Place ContextRecord) (k : Key) → same_key k (Ctx n) ≡ true → is_ready (put_ctx_place s n p) k ≡ true
made-put_ctx s n p (Term q) h = absurd cc
made-put_ctx s n p (Ctx q) h = ap (λ o. is_some o) (got_ctx s n p q) ∙ at_it (nat_eq q.0 n.0) p (finite.get s.contexts q.0) h
made-put_ctx s n p Whole h = absurd cc

-- another key has a place only where it had one
other_term : (s : Stored) (t : List ℕ) (p : Place Termination) (k : Key) → same_key k (Term t) ≡ false → is_ready (put_term_place s t p) k ≡ true → is_ready s k ≡ true
other_term s t p (Term q) e h = ap (λ b. is_some (cond b (Some p) (finite.get s.terms q))) (sym e) ∙ ap (λ o. is_some o) (sym (got_term s t p q)) ∙ h
other_term s t p (Ctx n) e h = h
other_term s t p Whole e h = refl

other_ctx : (s : Stored) (n : CtxNum) (p : Place ContextRecord) (k : Key) → same_key k (Ctx n) ≡ false → is_ready (put_ctx_place s n p) k ≡ true → is_ready s k ≡ true
other_ctx s n p (Term q) e h = h
other_ctx s n p (Ctx q) e h = ap (λ b. is_some (cond b (Some p) (finite.get s.contexts q.0))) (sym e) ∙ ap (λ o. is_some o) (sym (got_ctx s n p q)) ∙ h
other_ctx s n p Whole e h = refl

one_more : (keys : List Key) (k : Key) (old new : Stored) → KeepReady old new → ((q : Key) → same_key q k ≡ true → is_ready new q ≡ true) → AreReady keys old → AreReady (keys ++ k ∷ []) new
one_more keys k old new kept made ready q h = by (has keys q) (same_key q k) refl refl (sym (has-pushed keys k q) ∙ h)
  where
    by : (a b : Bool) → has keys q ≡ a → same_key q k ≡ b → (a || b) ≡ true → is_ready new q ≡ true
    by true b e f g = kept q (ready q e)
    by false true e f g = made q f
    by false false e f g = absurd cc

this_or_other : (same : Bool) (P : Type 0) → (same ≡ true → P) → (same ≡ false → P) → P
this_or_other true P f g = f refl
this_or_other false P f g = g refl

-- nor has the key itself, where it had one
had_term : (s : Stored) (t : List ℕ) (p : Place Termination) → is_ready s (Term t) ≡ true → KeepReady (put_term_place s t p) s
had_term s t p there k h = this_or_other (same_key k (Term t)) (is_ready s k ≡ true) (λ f. at k f) (λ f. other_term s t p k f h)
  where
    at : (k : Key) → same_key k (Term t) ≡ true → is_ready s k ≡ true
    at (Term q) f = ap (λ (x : List ℕ). is_some (finite.get s.terms x)) (same_name q t f) ∙ there
    at (Ctx n) f = absurd cc
    at Whole f = absurd cc

had_ctx : (s : Stored) (n : CtxNum) (p : Place ContextRecord) → is_ready s (Ctx n) ≡ true → KeepReady (put_ctx_place s n p) s
had_ctx s n p there k h = this_or_other (same_key k (Ctx n)) (is_ready s k ≡ true) (λ f. at k f) (λ f. other_ctx s n p k f h)
  where
    at : (k : Key) → same_key k (Ctx n) ≡ true → is_ready s k ≡ true
    at (Term q) f = absurd cc
    at (Ctx q) f = ap (λ (m : CtxNum). is_some (finite.get s.contexts m.0)) (same_number q n f) ∙ there
    at Whole f = absurd cc

-- no key but those that were written, of which this is one more
one_other : (keys : List Key) (k : Key) (start old new : Stored) → NoOtherReady (k ∷ []) old new → NoOtherReady keys start old → NoOtherReady (keys ++ k ∷ []) start new
one_other keys k start old new other alone q h r = by (has keys q) (same_key q k) refl refl (sym (has-pushed keys k q) ∙ h)
  where
    by : (a b : Bool) → has keys q ≡ a → same_key q k ≡ b → (a || b) ≡ false → is_ready start q ≡ true
    by true b e f g = absurd cc
    by false true e f g = absurd cc
    by false false e f g = alone q e (other q (ap (λ x. x || false) f) r)

alone-put_term : (s : Stored) (t : List ℕ) (p : Place Termination) → NoOtherReady (Term t ∷ []) s (put_term_place s t p)
alone-put_term s t p k h r = this_or_other (same_key k (Term t)) (is_ready s k ≡ true) (λ f. absurd (let clash : true ≡ false = sym (or_left (same_key k (Term t)) false f) ∙ h in cc)) (λ f. other_term s t p k f r)

alone-put_ctx : (s : Stored) (n : CtxNum) (p : Place ContextRecord) → NoOtherReady (Ctx n ∷ []) s (put_ctx_place s n p)
alone-put_ctx s n p k h r = this_or_other (same_key k (Ctx n)) (is_ready s k ≡ true) (λ f. absurd (let clash : true ≡ false = sym (or_left (same_key k (Ctx n)) false f) ∙ h in cc)) (λ f. other_ctx s n p k f r)

-- ---- one more write

module _ (start now : Stored) (ws : List Write) (i : IsInPlace start now ws) where
  pub wrote_term : (t : List ℕ) (p : Place Termination) (before : Option Termination) → has_left (Some p) ≡ false → before ≡ term (maps_of now) t → IsInPlace start (put_term_place now t p) (ws ++ OfTerm t before ∷ [])
  wrote_term t p before g was = record {
    here = in-put_term now t p g i.here;
    back = ap (undone (ws ++ OfTerm t before ∷ [])) (maps-put_term_place now t p) ∙ undone_term ws (maps_of now) t (visible (Some p)) before was ∙ i.back;
    places = λ k h. one_more (keys_written ws) (Term t) now (put_term_place now t p) (keep-put_term now t p) (made-put_term now t p) i.places k (ap (λ (l : List Key). has l k) (sym (keys_more ws (OfTerm t before))) ∙ h);
    kept = λ k h. keep-put_term now t p k (i.kept k h);
    alone = λ k h. one_other (keys_written ws) (Term t) start now (put_term_place now t p) (alone-put_term now t p) i.alone k (ap (λ (l : List Key). has l k) (sym (keys_more ws (OfTerm t before))) ∙ h);
  }

  pub wrote_ctx : (n : CtxNum) (p : Place ContextRecord) (before : Option ContextRecord) → has_left (Some p) ≡ false → before ≡ ctx (maps_of now) n → IsInPlace start (put_ctx_place now n p) (ws ++ OfCtx n before ∷ [])
  wrote_ctx n p before g was = record {
    here = in-put_ctx now n p g i.here;
    back = ap (undone (ws ++ OfCtx n before ∷ [])) (maps-put_ctx_place now n p) ∙ undone_ctx ws (maps_of now) n (visible (Some p)) before was ∙ i.back;
    places = λ k h. one_more (keys_written ws) (Ctx n) now (put_ctx_place now n p) (keep-put_ctx now n p) (made-put_ctx now n p) i.places k (ap (λ (l : List Key). has l k) (sym (keys_more ws (OfCtx n before))) ∙ h);
    kept = λ k h. keep-put_ctx now n p k (i.kept k h);
    alone = λ k h. one_other (keys_written ws) (Ctx n) start now (put_ctx_place now n p) (alone-put_ctx now n p) i.alone k (ap (λ (l : List Key). has l k) (sym (keys_more ws (OfCtx n before))) ∙ h);
  }

  -- of a key that was written before
  pub wrote_term_again : (t : List ℕ) (p : Place Termination) → has_left (Some p) ≡ false → has (keys_written ws) (Term t) ≡ true → IsInPlace start (put_term_place now t p) ws
  wrote_term_again t p g h = record {
    here = in-put_term now t p g i.here;
    back = ap (undone ws) (maps-put_term_place now t p) ∙ undone_term_again ws (maps_of now) t (visible (Some p)) h ∙ i.back;
    places = λ k e. keep-put_term now t p k (i.places k e);
    kept = λ k e. keep-put_term now t p k (i.kept k e);
    alone = λ k e r. i.alone k e (had_term now t p (i.places (Term t) h) k r);
  }

  pub wrote_ctx_again : (n : CtxNum) (p : Place ContextRecord) → has_left (Some p) ≡ false → has (keys_written ws) (Ctx n) ≡ true → IsInPlace start (put_ctx_place now n p) ws
  wrote_ctx_again n p g h = record {
    here = in-put_ctx now n p g i.here;
    back = ap (undone ws) (maps-put_ctx_place now n p) ∙ undone_ctx_again ws (maps_of now) n (visible (Some p)) h ∙ i.back;
    places = λ k e. keep-put_ctx now n p k (i.places k e);
    kept = λ k e. keep-put_ctx now n p k (i.kept k e);
    alone = λ k e r. i.alone k e (had_ctx now n p (i.places (Ctx n) h) k r);
  }

-- ---- what was found

pub logged_before : {A : Type 0} (ws vs : List Write) (k : Key) (was : Option A) (found : Found A) (entry : Option A) → vs ≡ ws → found ≡ Logged entry → IsFound (keys_written vs) k was found → has (keys_written ws) k ≡ true
logged_before ws vs k was found entry e n f = ap (λ (l : List Write). has (keys_written l) k) (sym e) ∙ (subst (λ x. IsFound (keys_written vs) k was x) n f).0

pub stood_there : {A : Type 0} (keys : List Key) (k : Key) (was : Option A) (found : Found A) (before : Option A) → found ≡ Unlogged before → IsFound keys k was found → before ≡ was
stood_there keys k was found before e f = subst (λ x. IsFound keys k was x) e f

-- ---- a context that was taken out and is put back

here_of : {A : Type 0} (o : Option (Place A)) (a : A) → Some a ≡ visible o → Some (Here a) ≡ o
here_of None a e = absurd cc
here_of (Some Empty) a e = absurd cc
here_of (Some (Here b)) a e = cc
here_of (Some Out) a e = absurd cc

pub put_back : (s : Stored) (n : CtxNum) (c : ContextRecord) → Some c ≡ ctx (maps_of s) n → put_ctx_place (put_ctx_place s n Empty) n (Here c) ≡ s
put_back s n c e = same_stored (put_ctx_place (put_ctx_place s n Empty) n (Here c)) s (λ t. refl) (λ q. got_ctx (put_ctx_place s n Empty) n (Here c) q ∙ ap (cond (nat_eq q.0 n.0) (Some (Here c))) (got_ctx s n Empty q) ∙ at q (nat_eq q.0 n.0) refl)
  where
    at : (q : CtxNum) (b : Bool) → nat_eq q.0 n.0 ≡ b → cond b (Some (Here c)) (cond b (Some Empty) (finite.get s.contexts q.0)) ≡ finite.get s.contexts q.0
    at q true f = here_of (finite.get s.contexts q.0) c (e ∙ ctx-maps_of s n ∙ ap (λ (m : CtxNum). visible (finite.get s.contexts m.0)) (sym (same_number q n f)))
    at q false f = refl

-- ---- who joins a context in its place

pub joined_there : (keys : List Key) (n : CtxNum) (t : List ℕ) (s after : Stored) (p w : Place ContextRecord) (b : Bool) → finite.get s.contexts n.0 ≡ Some p → after ≡ put_ctx_place s n w → HasJoined keys (Ctx n) t p b w → HasJoinedAt keys n t s b after
joined_there keys n t s after p w false stands e h = e ∙ ap (put_ctx_place s n) h ∙ same_ctx_place s n p stands
joined_there keys n t s after p w true stands e h =
    (h.0, (h.1.0, ctx-maps_of s n ∙ ap (λ o. visible o) (stands ∙ ap (λ (y : Place ContextRecord). Some y) h.1.1), e ∙ ap (put_ctx_place s n) h.1.2))

pub maps-joined : (keys : List Key) (n : CtxNum) (t : List ℕ) (s after : Stored) (b : Bool) → HasJoinedAt keys n t s b after → maps_of after ≡ with_member_if b n t (maps_of s)
maps-joined keys n t s after false h = ap (λ (x : Stored). maps_of x) h
maps-joined keys n t s after true h =
    ap (λ (x : Stored). maps_of x) h.1.2 ∙ maps-put_ctx_place s n (Here (joined t h.1.0)) ∙ ap (λ (o : Option ContextRecord). put_ctx (maps_of s) n (Some (joined t (context_of o)))) (sym h.1.1)

pub joined_in_place : (start now after : Stored) (ws : List Write) → IsInPlace start now ws → (n : CtxNum) (t : List ℕ) (r : Result Bool NoMemory) → IfOk r (λ b. HasJoinedAt (keys_written ws) n t now b after) → OnErr r (after ≡ now) → IsInPlace start after ws
joined_in_place start now after ws i n t (Ok false) h e = subst (λ (s : Stored). IsInPlace start s ws) (sym h) i
joined_in_place start now after ws i n t (Ok true) h e = subst (λ (s : Stored). IsInPlace start s ws) (sym h.1.2) (wrote_ctx_again start now ws i n (Here (joined t h.1.0)) refl h.0)
joined_in_place start now after ws i n t (Err x) h e = subst (λ (s : Stored). IsInPlace start s ws) (sym e) i
