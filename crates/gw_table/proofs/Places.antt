-- Look-ups in the maps that stored tables are seen as, and what one place changes.
use Rattle.std.proofs.Common.{nat_eq, ◌≡◌, ℕ, Bool, true, false, cond, List, bytes_eq, Option, None, Some, is_some, refl, sym, ap, ◌∙◌}
use Rattle.std.specs.Cmp.{nat_cmp_total}
use Rattle.std.specs.Cmp.Lexicographic.{nat_list_cmp_total}
use Rattle.std.specs.FinMap as finite
use Rattle.std.specs.FinMap.{get-insert, get-empty, same_map, nat_cmp-IsAntisymmetric}
use Rattle.std.specs.Ordering.{nat_cmp}
use Rattle.gw_base.specs.declared.ids.CtxNum.{CtxNum}
use Rattle.gw_base.specs.declared.key.Key.{Key}
use Rattle.gw_base.specs.declared.key.Key.TheVariants.{Term, Ctx, Whole}
use Rattle.gw_base.specs.NameLists.{name_cmp}
use Rattle.gw_base.proofs.NameTests.{name_test, number_test, names_same, same_name, same_number}
use Rattle.gw_term.specs.declared.record.Termination.{Termination}
use Rattle.gw_ctx.specs.Contexts.{ContextRecord}
use Rattle.gw_table.specs.declared.place.Place.{Place}
use Rattle.gw_table.specs.declared.place.Place.TheVariants.{Here}
use Rattle.gw_table.specs.Maps.{term, ctx, put_term, put_ctx, no_maps}
use Rattle.gw_table.specs.Stored.{Stored, visible, has_left, placed, maps_of, is_ready, is_out, put_term_place, put_ctx_place, nothing_stored, NoneIsOut, AreAsOut, AreSwept}
use Rattle.gw_table.proofs.Lookups.{term-put_term, ctx-put_term, term-put_ctx, ctx-put_ctx, same_maps}
use Rattle.gw_table.proofs.Shown.{got_shown, visible-cond}

pub term-maps_of : (s : Stored) (t : List ℕ) → term (maps_of s) t ≡ visible (finite.get s.terms t)
unfolding maps_of
term-maps_of s t = got_shown nat_list_cmp_total s.terms t

pub ctx-maps_of : (s : Stored) (n : CtxNum) → ctx (maps_of s) n ≡ visible (finite.get s.contexts n.0)
unfolding maps_of
ctx-maps_of s n = got_shown nat_cmp_total s.contexts n.0

-- tables that show the same entries are seen as the same maps
pub shown_alike : (a b : Stored) → ((t : List ℕ) → visible (finite.get a.terms t) ≡ visible (finite.get b.terms t)) → ((n : CtxNum) → visible (finite.get a.contexts n.0) ≡ visible (finite.get b.contexts n.0)) → maps_of a ≡ maps_of b
shown_alike a b ts cs = same_maps (maps_of a) (maps_of b) (λ t. term-maps_of a t ∙ ts t ∙ sym (term-maps_of b t)) (λ n. ctx-maps_of a n ∙ cs n ∙ sym (ctx-maps_of b n))

-- places that are found alike are one
pub same_stored : (a b : Stored) → ((t : List ℕ) → finite.get a.terms t ≡ finite.get b.terms t) → ((n : CtxNum) → finite.get a.contexts n.0 ≡ finite.get b.contexts n.0) → a ≡ b
same_stored a b ts cs =
    let terms : a.terms ≡ b.terms = same_map nat_list_cmp_total names_same a.terms b.terms ts in
    let contexts : a.contexts ≡ b.contexts = same_map nat_cmp_total nat_cmp-IsAntisymmetric a.contexts b.contexts (λ q. cs (record { 0 = q })) in
    λ i. record { terms = terms i; contexts = contexts i }

-- ---- no places

pub maps_of_nothing : maps_of nothing_stored ≡ no_maps
maps_of_nothing = same_maps (maps_of nothing_stored) no_maps
    (λ t. term-maps_of nothing_stored t ∙ ap (λ o. visible o) (get-empty name_cmp t) ∙ sym (get-empty name_cmp t))
    (λ n. ctx-maps_of nothing_stored n ∙ ap (λ o. visible o) (get-empty nat_cmp n.0) ∙ sym (get-empty nat_cmp n.0))

pub nothing_out : NoneIsOut nothing_stored
nothing_out (Term t) = ap (λ o. has_left o) (get-empty name_cmp t)
nothing_out (Ctx n) = ap (λ o. has_left o) (get-empty nat_cmp n.0)
nothing_out Whole = refl

pub nothing_swept : AreSwept nothing_stored
nothing_swept (Term t) = ap (λ o. is_some o) (get-empty name_cmp t) ∙ sym (ap (λ o. is_some o) (term-maps_of nothing_stored t ∙ ap (λ o. visible o) (get-empty name_cmp t)))
nothing_swept (Ctx n) = ap (λ o. is_some o) (get-empty nat_cmp n.0) ∙ sym (ap (λ o. is_some o) (ctx-maps_of nothing_stored n ∙ ap (λ o. visible o) (get-empty nat_cmp n.0)))
nothing_swept Whole = refl

-- ---- one place

pub got_term : (s : Stored) (t : List ℕ) (p : Place Termination) (q : List ℕ) → finite.get (put_term_place s t p).terms q ≡ cond (bytes_eq q t) (Some p) (finite.get s.terms q)
got_term s t p q = get-insert nat_list_cmp_total s.terms t p q ∙ ap (λ b. cond b (Some p) (finite.get s.terms q)) (name_test q t)

pub got_ctx : (s : Stored) (n : CtxNum) (p : Place ContextRecord) (q : CtxNum) → finite.get (put_ctx_place s n p).contexts q.0 ≡ cond (nat_eq q.0 n.0) (Some p) (finite.get s.contexts q.0)
got_ctx s n p q = get-insert nat_cmp_total s.contexts n.0 p q.0 ∙ ap (λ b. cond b (Some p) (finite.get s.contexts q.0)) (number_test q.0 n.0)

pub maps-put_term_place : (s : Stored) (t : List ℕ) (p : Place Termination) → maps_of (put_term_place s t p) ≡ put_term (maps_of s) t (visible (Some p))
maps-put_term_place s t p = same_maps (maps_of (put_term_place s t p)) (put_term (maps_of s) t (visible (Some p)))
    (λ q. term-maps_of (put_term_place s t p) q ∙ ap (λ o. visible o) (got_term s t p q) ∙ sym (visible-cond (bytes_eq q t) p (finite.get s.terms q))
    ∙ ap (cond (bytes_eq q t) (visible (Some p))) (sym (term-maps_of s q)) ∙ sym (term-put_term (maps_of s) t (visible (Some p)) q))
    (λ q. ctx-maps_of (put_term_place s t p) q ∙ sym (ctx-maps_of s q) ∙ sym (ctx-put_term (maps_of s) t (visible (Some p)) q))

pub maps-put_ctx_place : (s : Stored) (n : CtxNum) (p : Place ContextRecord) → maps_of (put_ctx_place s n p) ≡ put_ctx (maps_of s) n (visible (Some p))
maps-put_ctx_place s n p = same_maps (maps_of (put_ctx_place s n p)) (put_ctx (maps_of s) n (visible (Some p)))
    (λ q. term-maps_of (put_ctx_place s n p) q ∙ sym (term-maps_of s q) ∙ sym (term-put_ctx (maps_of s) n (visible (Some p)) q))
    (λ q. ctx-maps_of (put_ctx_place s n p) q ∙ ap (λ o. visible o) (got_ctx s n p q) ∙ sym (visible-cond (nat_eq q.0 n.0) p (finite.get s.contexts q.0))
    ∙ ap (cond (nat_eq q.0 n.0) (visible (Some p))) (sym (ctx-maps_of s q)) ∙ sym (ctx-put_ctx (maps_of s) n (visible (Some p)) q))

pub same_ctx_place : (s : Stored) (n : CtxNum) (p : Place ContextRecord) → finite.get s.contexts n.0 ≡ Some p → put_ctx_place s n p ≡ s
same_ctx_place s n p e = same_stored (put_ctx_place s n p) s (λ t. refl) (λ q. got_ctx s n p q ∙ at q (nat_eq q.0 n.0) refl)
  where
    at : (q : CtxNum) (b : Bool) → nat_eq q.0 n.0 ≡ b → cond b (Some p) (finite.get s.contexts q.0) ≡ finite.get s.contexts q.0
    at q true h = sym e ∙ ap (λ (x : CtxNum). finite.get s.contexts x.0) (sym (same_number q n h))
    at q false h = refl

-- a place of an entry, or of none
pub shown_placed : {A : Type 0} (o : Option A) → visible (Some (placed o)) ≡ o
shown_placed None = refl
shown_placed (Some a) = refl

pub placed_here : {A : Type 0} (o : Option A) → has_left (Some (placed o)) ≡ false
placed_here None = refl
placed_here (Some a) = refl

-- a place that was there is there after it
still : {K A : Type 0} (f : K → Option A) (b : Bool) (q t : K) (p : A) → (b ≡ true → q ≡ t) → is_some (f t) ≡ true → is_some (cond b (Some p) (f q)) ≡ is_some (f q)
still f true q t p is h = sym (ap (λ y. is_some (f y)) (is refl) ∙ h)
still f false q t p is h = refl

pub ready-put_term : (s : Stored) (t : List ℕ) (p : Place Termination) (k : Key) → is_ready s (Term t) ≡ true → is_ready (put_term_place s t p) k ≡ is_ready s k
ready-put_term s t p (Term q) h = ap (λ o. is_some o) (got_term s t p q) ∙ still (λ y. finite.get s.terms y) (bytes_eq q t) q t p (same_name q t) h
ready-put_term s t p (Ctx n) h = refl
ready-put_term s t p Whole h = refl

pub ready-put_ctx : (s : Stored) (n : CtxNum) (p : Place ContextRecord) (k : Key) → is_ready s (Ctx n) ≡ true → is_ready (put_ctx_place s n p) k ≡ is_ready s k
ready-put_ctx s n p (Term q) h = refl
ready-put_ctx s n p (Ctx q) h = ap (λ o. is_some o) (got_ctx s n p q) ∙ still (λ (y : CtxNum). finite.get s.contexts y.0) (nat_eq q.0 n.0) q n p (same_number q n) h
ready-put_ctx s n p Whole h = refl

in_still : {A : Type 0} (b : Bool) (p : Place A) (o : Option (Place A)) → has_left (Some p) ≡ false → has_left o ≡ false → has_left (cond b (Some p) o) ≡ false
in_still true p o g h = g
in_still false p o g h = h

pub in-put_term : (s : Stored) (t : List ℕ) (p : Place Termination) → has_left (Some p) ≡ false → NoneIsOut s → NoneIsOut (put_term_place s t p)
in-put_term s t p g h (Term q) = ap (λ o. has_left o) (got_term s t p q) ∙ in_still (bytes_eq q t) p (finite.get s.terms q) g (h (Term q))
in-put_term s t p g h (Ctx n) = h (Ctx n)
in-put_term s t p g h Whole = refl

pub in-put_ctx : (s : Stored) (n : CtxNum) (p : Place ContextRecord) → has_left (Some p) ≡ false → NoneIsOut s → NoneIsOut (put_ctx_place s n p)
in-put_ctx s n p g h (Term q) = h (Term q)
in-put_ctx s n p g h (Ctx q) = ap (λ o. has_left o) (got_ctx s n p q) ∙ in_still (nat_eq q.0 n.0) p (finite.get s.contexts q.0) g (h (Ctx q))
in-put_ctx s n p g h Whole = refl

-- where each prepared key has an entry, it is so with one more entry
swept_still : {A : Type 0} (b : Bool) (r : A) (x : Option (Place A)) → is_some x ≡ is_some (visible x) → is_some (cond b (Some (Here r)) x) ≡ is_some (visible (cond b (Some (Here r)) x))
swept_still true r x h = refl
swept_still false r x h = h

pub swept-put_term : (s : Stored) (t : List ℕ) (r : Termination) → AreSwept s → AreSwept (put_term_place s t (Here r))
swept-put_term s t r h (Term q) =
    ap (λ o. is_some o) (got_term s t (Here r) q)
    ∙ swept_still (bytes_eq q t) r (finite.get s.terms q) (h (Term q) ∙ ap (λ o. is_some o) (term-maps_of s q))
    ∙ sym (ap (λ o. is_some o) (term-maps_of (put_term_place s t (Here r)) q ∙ ap (λ o. visible o) (got_term s t (Here r) q)))
swept-put_term s t r h (Ctx q) = h (Ctx q) ∙ ap (λ o. is_some o) (ctx-maps_of s q ∙ sym (ctx-maps_of (put_term_place s t (Here r)) q))
swept-put_term s t r h Whole = refl

-- what is out stays so
as_out : {K A : Type 0} (f : K → Option (Place A)) (b : Bool) (q t : K) (p : Place A) → (b ≡ true → q ≡ t) → has_left (Some p) ≡ false → has_left (f t) ≡ false → has_left (cond b (Some p) (f q)) ≡ has_left (f q)
as_out f true q t p is g h = g ∙ sym (ap (λ y. has_left (f y)) (is refl) ∙ h)
as_out f false q t p is g h = refl

pub out-put_term : (s : Stored) (t : List ℕ) (p : Place Termination) → has_left (Some p) ≡ false → is_out s (Term t) ≡ false → AreAsOut s (put_term_place s t p)
out-put_term s t p g h (Term q) = ap (λ o. has_left o) (got_term s t p q) ∙ as_out (λ y. finite.get s.terms y) (bytes_eq q t) q t p (same_name q t) g h
out-put_term s t p g h (Ctx n) = refl
out-put_term s t p g h Whole = refl

pub out-put_ctx : (s : Stored) (n : CtxNum) (p : Place ContextRecord) → has_left (Some p) ≡ false → is_out s (Ctx n) ≡ false → AreAsOut s (put_ctx_place s n p)
out-put_ctx s n p g h (Term q) = refl
out-put_ctx s n p g h (Ctx q) = ap (λ o. has_left o) (got_ctx s n p q) ∙ as_out (λ (y : CtxNum). finite.get s.contexts y.0) (nat_eq q.0 n.0) q n p (same_number q n) g h
out-put_ctx s n p g h Whole = refl
