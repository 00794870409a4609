-- After accesses, who is new in a place or a list is one of their keys.
use Rattle.std.proofs.Common.{nat_eq, ◌≡◌, ℕ, Bool, true, false, cond, ◌⊎◌, inl, inr, List, Option, Some, bytes_eq, refl, sym, ap, subst, ◌∙◌}
use Rattle.gw_base.specs.declared.ids.CtxNum.{CtxNum}
use Rattle.gw_base.specs.declared.key.Key.{Key}
use Rattle.gw_base.specs.declared.key.Key.TheVariants.{Term, Ctx}
use Rattle.gw_base.specs.Keys.{has}
use Rattle.gw_base.specs.NameLists.{is_in}
use Rattle.gw_base.proofs.NameTests.{same_name, same_number}
use Rattle.gw_base.proofs.NamesInLists.{either}
use Rattle.gw_term.specs.declared.record.Termination.{Termination}
use Rattle.gw_ctx.specs.Contexts.{ContextRecord}
use Rattle.gw_table.specs.Maps.{Maps, term, ctx, put_term, put_ctx, place_of, members_of}
use Rattle.gw_table.specs.Parts.{PartKeys, Only, holds}
use Rattle.gw_table.specs.Accesses.{Accesses, Done, ReadTerm, ReadCtx, ReadAll, PutTerm, PutCtx, effect, Within, NewIn, NewPlace}
use Rattle.gw_table.proofs.Lookups.{term-put_term, ctx-put_term, term-put_ctx, ctx-put_ctx}

pub record Grows (keys : PartKeys) (m n : Maps) : Type 0 where
  pub places : (t : List ℕ) (c : CtxNum) → place_of (term n t) ≡ Some c → (place_of (term m t) ≡ Some c) ⊎ (holds keys (Ctx c) ≡ true)
  pub members : (c : CtxNum) (t : List ℕ) → is_in t (members_of (ctx n c)) ≡ true → (is_in t (members_of (ctx m c)) ≡ true) ⊎ (holds keys (Term t) ≡ true)

pub grows_not : (keys : PartKeys) (m : Maps) → Grows keys m m
grows_not keys m = record { places = λ t c e. inl e; members = λ c t e. inl e }

pub grows_on : (keys : PartKeys) (l m n : Maps) → Grows keys l m → Grows keys m n → Grows keys l n
grows_on keys l m n g h = record {
  places = λ t c e. either (h.places t c e) (λ x. g.places t c x) (λ x. inr x);
  members = λ c t e. either (h.members c t e) (λ x. g.members c t x) (λ x. inr x);
}

written_place : (keys : List Key) (q t : List ℕ) (b : Bool) (o : Option Termination) (f : List ℕ → Option Termination) (c : CtxNum) → (b ≡ true → q ≡ t) → NewPlace keys (place_of (f t)) (place_of o) → place_of (cond b o (f q)) ≡ Some c → (place_of (f q) ≡ Some c) ⊎ (has keys (Ctx c) ≡ true)
written_place keys q t true o f c is h e = either (h c e) (λ x. inl (ap (λ y. place_of (f y)) (is refl) ∙ x)) (λ x. inr x)
written_place keys q t false o f c is h e = inl e

written_members : (keys : List Key) (q n : CtxNum) (b : Bool) (o : Option ContextRecord) (f : CtxNum → Option ContextRecord) → (b ≡ true → q ≡ n) → NewIn keys (members_of (f n)) (members_of o) → NewIn keys (members_of (f q)) (members_of (cond b o (f q)))
written_members keys q n true o f is h = subst (λ (y : CtxNum). NewIn keys (members_of (f y)) (members_of o)) (sym (is refl)) h
written_members keys q n false o f is h = λ t e. inl e

same_new : (keys : List Key) (l k : List (List ℕ)) → k ≡ l → NewIn keys l k
same_new keys l k e = λ t h. inl (ap (is_in t) (sym e) ∙ h)

pub effect_grows : {A : Type 0} (keys : List Key) (p : Accesses A) (m : Maps) → Within keys p m → Grows (Only keys) m (effect p m).maps
effect_grows keys (Done a) m w = grows_not (Only keys) m
effect_grows keys (ReadTerm t f) m w = effect_grows keys (f (term m t)) m w.1
effect_grows keys (ReadCtx c f) m w = effect_grows keys (f (ctx m c)) m w.1
effect_grows keys (ReadAll f) m w = effect_grows keys (f m) m w.1
effect_grows keys (PutTerm t o p) m w = grows_on (Only keys) m (put_term m t o) (effect p (put_term m t o)).maps
    (record {
      places = λ q c e. written_place keys q t (bytes_eq q t) o (term m) c (same_name q t) w.1 (ap (λ x. place_of x) (sym (term-put_term m t o q)) ∙ e);
      members = λ c. same_new keys (members_of (ctx m c)) (members_of (ctx (put_term m t o) c)) (ap (λ x. members_of x) (ctx-put_term m t o c));
    })
    (effect_grows keys p (put_term m t o) w.2)
effect_grows keys (PutCtx n o p) m w = grows_on (Only keys) m (put_ctx m n o) (effect p (put_ctx m n o)).maps
    (record {
      places = λ q c e. inl (ap (λ x. place_of x) (sym (term-put_ctx m n o q)) ∙ e);
      members = λ q. subst (λ x. NewIn keys (members_of (ctx m q)) (members_of x)) (sym (ctx-put_ctx m n o q)) (written_members keys q n (nat_eq q.0 n.0) o (ctx m) (same_number q n) w.1);
    })
    (effect_grows keys p (put_ctx m n o) w.2)
