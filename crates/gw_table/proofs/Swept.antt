-- Places of some keys are freed, where there is no entry.
use Rattle.std.proofs.Common.{◌≡◌, ℕ, Bool, true, false, cond, List, [], ◌∷◌, ◌++◌, Option, None, Some, is_some, bytes_eq, nat_eq, refl, sym, ap, ◌∙◌}
use Rattle.std.specs.Prelude.{◌||◌}
use Rattle.std.specs.Cmp.{nat_cmp_total}
use Rattle.std.specs.Cmp.Lexicographic.{nat_list_cmp_total}
use Rattle.std.specs.FinMap as finite
use Rattle.std.specs.FinMap.{get-remove}
use Rattle.gw_base.specs.declared.ids.CtxNum.{CtxNum}
use Rattle.gw_base.specs.declared.key.Key.{Key}
use Rattle.gw_base.specs.declared.key.Key.TheVariants.{Term, Ctx, Whole}
use Rattle.gw_base.specs.Keys.{same_key, has}
use Rattle.gw_base.proofs.NameTests.{name_test, number_test, same_name, same_number}
use Rattle.gw_table.specs.declared.place.Place.{Place}
use Rattle.gw_table.specs.declared.place.Place.TheVariants.{Empty, Here, Out}
use Rattle.gw_table.specs.Stored.{Stored, visible, has_left, is_vacant, maps_of, is_ready, is_out, has_entry, drop_term_place, drop_ctx_place, AreAsOut, AreSwept, AreSweptAmong, KeepReady, WereSwept}
use Rattle.gw_table.proofs.Moved.{has-pushed}
use Rattle.gw_table.proofs.Places.{term-maps_of, ctx-maps_of, shown_alike}

one_of_both : (h s e r : Bool) → cond (s || false) e (cond h e r) ≡ cond (h || s) e r
one_of_both true true e r = refl
one_of_both true false e r = refl
one_of_both false true e r = refl
one_of_both false false e r = refl

pub swept_more : (keys : List Key) (k : Key) (a b c : Stored) → WereSwept keys a b → WereSwept (k ∷ []) b c → WereSwept (keys ++ k ∷ []) a c
swept_more keys k a b c p q = record {
  maps = q.maps ∙ p.maps;
  out = λ x. q.out x ∙ p.out x;
  ready = λ x. q.ready x
      ∙ ap (λ m. cond (same_key x k || false) (has_entry m x) (is_ready b x)) p.maps
      ∙ ap (λ y. cond (same_key x k || false) (has_entry (maps_of a) x) y) (p.ready x)
      ∙ one_of_both (has keys x) (same_key x k) (has_entry (maps_of a) x) (is_ready a x)
      ∙ ap (λ y. cond y (has_entry (maps_of a) x) (is_ready a x)) (sym (has-pushed keys k x));
}

-- ---- a key that has an entry or no place

as_shown : {A : Type 0} (o : Option (Place A)) → has_left o ≡ false → is_vacant o ≡ false → is_some o ≡ is_some (visible o)
as_shown None out full = refl
as_shown (Some Empty) out full = cc
as_shown (Some (Here a)) out full = refl
as_shown (Some Out) out full = cc

still_ready : {K A : Type 0} (f : K → Option (Place A)) (b : Bool) (q t : K) (e : Bool) → (b ≡ true → q ≡ t) → has_left (f t) ≡ false → is_vacant (f t) ≡ false → e ≡ is_some (visible (f q)) → is_some (f q) ≡ cond (b || false) e (is_some (f q))
still_ready f true q t e is out full h = ap (λ y. is_some (f y)) (is refl) ∙ as_shown (f t) out full ∙ ap (λ y. is_some (visible (f y))) (sym (is refl)) ∙ sym h
still_ready f false q t e is out full h = refl

pub term_kept : (s : Stored) (t : List ℕ) → is_out s (Term t) ≡ false → is_vacant (finite.get s.terms t) ≡ false → WereSwept (Term t ∷ []) s s
term_kept s t out full = record { maps = refl; out = λ k. refl; ready = at }
  where
    at : (k : Key) → is_ready s k ≡ cond (has (Term t ∷ []) k) (has_entry (maps_of s) k) (is_ready s k)
    at (Term q) = still_ready (λ y. finite.get s.terms y) (bytes_eq q t) q t (has_entry (maps_of s) (Term q)) (same_name q t) out full (ap (λ o. is_some o) (term-maps_of s q))
    at (Ctx n) = refl
    at Whole = refl

pub ctx_kept : (s : Stored) (n : CtxNum) → is_out s (Ctx n) ≡ false → is_vacant (finite.get s.contexts n.0) ≡ false → WereSwept (Ctx n ∷ []) s s
ctx_kept s n out full = record { maps = refl; out = λ k. refl; ready = at }
  where
    at : (k : Key) → is_ready s k ≡ cond (has (Ctx n ∷ []) k) (has_entry (maps_of s) k) (is_ready s k)
    at (Term q) = refl
    at (Ctx q) = still_ready (λ (y : CtxNum). finite.get s.contexts y.0) (nat_eq q.0 n.0) q n (has_entry (maps_of s) (Ctx q)) (same_number q n) out full (ap (λ o. is_some o) (ctx-maps_of s q))
    at Whole = refl

-- ---- a place in which nothing stands

module _ {K A : Type 0} (f : K → Option (Place A)) (q t : K) (vacant : is_vacant (f t) ≡ true) where
  nothing_shown : (o : Option (Place A)) → is_vacant o ≡ true → visible o ≡ None
  nothing_shown None h = refl
  nothing_shown (Some Empty) h = refl
  nothing_shown (Some (Here a)) h = cc
  nothing_shown (Some Out) h = refl

  nothing_out : (o : Option (Place A)) → is_vacant o ≡ true → has_left o ≡ false
  nothing_out None h = refl
  nothing_out (Some Empty) h = refl
  nothing_out (Some (Here a)) h = refl
  nothing_out (Some Out) h = cc

  same_shown : (b : Bool) → (b ≡ true → q ≡ t) → visible (cond b None (f q)) ≡ visible (f q)
  same_shown true is = sym (ap (λ y. visible (f y)) (is refl) ∙ nothing_shown (f t) vacant)
  same_shown false is = refl

  same_out : (b : Bool) → (b ≡ true → q ≡ t) → has_left (cond b None (f q)) ≡ has_left (f q)
  same_out true is = sym (ap (λ y. has_left (f y)) (is refl) ∙ nothing_out (f t) vacant)
  same_out false is = refl

  now_gone : (b e : Bool) → (b ≡ true → q ≡ t) → e ≡ is_some (visible (f q)) → is_some (cond b None (f q)) ≡ cond (b || false) e (is_some (f q))
  now_gone true e is h = sym (h ∙ ap (λ y. is_some (visible (f y))) (is refl) ∙ ap (λ o. is_some o) (nothing_shown (f t) vacant))
  now_gone false e is h = refl

got_term : (s : Stored) (t q : List ℕ) → finite.get (drop_term_place s t).terms q ≡ cond (bytes_eq q t) None (finite.get s.terms q)
got_term s t q = get-remove nat_list_cmp_total s.terms t q ∙ ap (λ b. cond b None (finite.get s.terms q)) (name_test q t)

got_ctx : (s : Stored) (n q : CtxNum) → finite.get (drop_ctx_place s n).contexts q.0 ≡ cond (nat_eq q.0 n.0) None (finite.get s.contexts q.0)
got_ctx s n q = get-remove nat_cmp_total s.contexts n.0 q.0 ∙ ap (λ b. cond b None (finite.get s.contexts q.0)) (number_test q.0 n.0)

pub term_gone : (s : Stored) (t : List ℕ) → is_vacant (finite.get s.terms t) ≡ true → WereSwept (Term t ∷ []) s (drop_term_place s t)
term_gone s t vacant = record {
  maps = shown_alike (drop_term_place s t) s (λ q. ap (λ o. visible o) (got_term s t q) ∙ same_shown (λ y. finite.get s.terms y) q t vacant (bytes_eq q t) (same_name q t)) (λ n. refl);
  out = out;
  ready = ready;
}
  where
    out : AreAsOut s (drop_term_place s t)
    out (Term q) = ap (λ o. has_left o) (got_term s t q) ∙ same_out (λ y. finite.get s.terms y) q t vacant (bytes_eq q t) (same_name q t)
    out (Ctx n) = refl
    out Whole = refl

    ready : (k : Key) → is_ready (drop_term_place s t) k ≡ cond (has (Term t ∷ []) k) (has_entry (maps_of s) k) (is_ready s k)
    ready (Term q) = ap (λ o. is_some o) (got_term s t q) ∙ now_gone (λ y. finite.get s.terms y) q t vacant (bytes_eq q t) (has_entry (maps_of s) (Term q)) (same_name q t) (ap (λ o. is_some o) (term-maps_of s q))
    ready (Ctx n) = refl
    ready Whole = refl

pub ctx_gone : (s : Stored) (n : CtxNum) → is_vacant (finite.get s.contexts n.0) ≡ true → WereSwept (Ctx n ∷ []) s (drop_ctx_place s n)
ctx_gone s n vacant = record {
  maps = shown_alike (drop_ctx_place s n) s (λ t. refl) (λ q. ap (λ o. visible o) (got_ctx s n q) ∙ same_shown (λ (y : CtxNum). finite.get s.contexts y.0) q n vacant (nat_eq q.0 n.0) (same_number q n));
  out = out;
  ready = ready;
}
  where
    out : AreAsOut s (drop_ctx_place s n)
    out (Term q) = refl
    out (Ctx q) = ap (λ o. has_left o) (got_ctx s n q) ∙ same_out (λ (y : CtxNum). finite.get s.contexts y.0) q n vacant (nat_eq q.0 n.0) (same_number q n)
    out Whole = refl

    ready : (k : Key) → is_ready (drop_ctx_place s n) k ≡ cond (has (Ctx n ∷ []) k) (has_entry (maps_of s) k) (is_ready s k)
    ready (Term q) = refl
    ready (Ctx q) = ap (λ o. is_some o) (got_ctx s n q) ∙ now_gone (λ (y : CtxNum). finite.get s.contexts y.0) q n vacant (nat_eq q.0 n.0) (has_entry (maps_of s) (Ctx q)) (same_number q n) (ap (λ o. is_some o) (ctx-maps_of s q))
    ready Whole = refl

-- ---- what is prepared then

from_shown : {A : Type 0} (o : Option (Place A)) → is_some (visible o) ≡ true → is_some o ≡ true
from_shown None h = h
from_shown (Some p) h = refl

-- a key that has an entry is prepared
pub entry_ready : (s : Stored) (k : Key) → has_entry (maps_of s) k ≡ true → is_ready s k ≡ true
entry_ready s (Term t) h = from_shown (finite.get s.terms t) (ap (λ o. is_some o) (sym (term-maps_of s t)) ∙ h)
entry_ready s (Ctx n) h = from_shown (finite.get s.contexts n.0) (ap (λ o. is_some o) (sym (ctx-maps_of s n)) ∙ h)
entry_ready s Whole h = refl

pub swept_among : (keys : List Key) (a b : Stored) → WereSwept keys a b → AreSweptAmong keys b
swept_among keys a b w k h = w.ready k ∙ ap (λ x. cond x (has_entry (maps_of a) k) (is_ready a k)) h ∙ ap (λ m. has_entry m k) (sym w.maps)

pub fewer_swept : (keys : List Key) (a b : Stored) → WereSwept keys a b → KeepReady b a
fewer_swept keys a b w k h = by (has keys k) (sym (w.ready k) ∙ h)
  where
    by : (x : Bool) → cond x (has_entry (maps_of a) k) (is_ready a k) ≡ true → is_ready a k ≡ true
    by true g = entry_ready a k g
    by false g = g

pub fewer_entries : (a b : Stored) → maps_of b ≡ maps_of a → AreSwept b → KeepReady b a
fewer_entries a b same swept k h = entry_ready a k (ap (λ m. has_entry m k) (sym same) ∙ sym (swept k) ∙ h)

pub both_or_none : (a b : Bool) → (a ≡ true → b ≡ true) → (b ≡ true → a ≡ true) → a ≡ b
both_or_none true b f g = sym (f refl)
both_or_none false true f g = g refl
both_or_none false false f g = refl

-- what was swept stays so, where no key became prepared
pub still_swept : (keys : List Key) (a b : Stored) → maps_of b ≡ maps_of a → KeepReady b a → AreSweptAmong keys a → AreSweptAmong keys b
still_swept keys a b same fewer swept k h =
    both_or_none (is_ready b k) (has_entry (maps_of b) k) (λ r. ap (λ m. has_entry m k) same ∙ sym (swept k h) ∙ fewer k r) (entry_ready b k)
