-- What is read in a part, beside a part and after a part was laid over the maps.
use Rattle.std.proofs.Common.{nat_eq, ◌≡◌, ℕ, Bool, true, false, cond, not, List, [], ◌∷◌, bytes_eq, Option, None, is_some, refl, sym, ap, subst, ◌∙◌}
use Rattle.std.specs.Prelude.{◌||◌}
use Rattle.std.specs.FinMap.{get-retain_keys, nat_cmp-IsAntisymmetric}
use Rattle.gw_base.specs.declared.ids.CtxNum.{CtxNum}
use Rattle.gw_base.specs.declared.key.Key.{Key}
use Rattle.gw_base.specs.declared.key.Key.TheVariants.{Term, Ctx, Whole}
use Rattle.gw_base.specs.Keys.{has}
use Rattle.gw_base.specs.NameLists.{is_in, NoDoubles}
use Rattle.gw_base.proofs.NameTests.{names_same, same_name, same_number}
use Rattle.gw_table.specs.Maps.{Maps, term, ctx, place_of, members_of}
use Rattle.gw_table.specs.Parts.{Every, Only, IsPart, restricted, cut, overlaid}
use Rattle.gw_table.specs.WellFormed.{IsSound, AreWellFormed}
use Rattle.gw_table.proofs.Lookups.{term-put_term, ctx-put_term, term-put_ctx, ctx-put_ctx, same_maps}

pub term-restricted : (keys : List Key) (m : Maps) (q : List ℕ) → term (restricted keys m) q ≡ cond (has keys (Term q)) (term m q) None
term-restricted keys m q = get-retain_keys m.terms (λ t. has keys (Term t)) q (λ x e. ap (λ (y : List ℕ). has keys (Term y)) (sym (names_same q x e)))

pub ctx-restricted : (keys : List Key) (m : Maps) (q : CtxNum) → ctx (restricted keys m) q ≡ cond (has keys (Ctx q)) (ctx m q) None
ctx-restricted keys m q = get-retain_keys m.contexts (λ n. let k : CtxNum = record { 0 = n } in has keys (Ctx k)) q.0 (λ x e. ap (λ (y : ℕ). let k : CtxNum = record { 0 = y } in has keys (Ctx k)) (sym (nat_cmp-IsAntisymmetric q.0 x e)))

turned : {A : Type 0} (b : Bool) (x y : A) → cond (not b) x y ≡ cond b y x
turned true x y = refl
turned false x y = refl

pub term-cut : (keys : List Key) (m : Maps) (q : List ℕ) → term (cut keys m) q ≡ cond (has keys (Term q)) None (term m q)
term-cut keys m q =
    get-retain_keys m.terms (λ t. not (has keys (Term t))) q (λ x e. ap (λ (y : List ℕ). not (has keys (Term y))) (sym (names_same q x e)))
    ∙ turned (has keys (Term q)) (term m q) None

pub ctx-cut : (keys : List Key) (m : Maps) (q : CtxNum) → ctx (cut keys m) q ≡ cond (has keys (Ctx q)) None (ctx m q)
ctx-cut keys m q =
    get-retain_keys m.contexts (λ n. let k : CtxNum = record { 0 = n } in not (has keys (Ctx k))) q.0 (λ x e. ap (λ (y : ℕ). let k : CtxNum = record { 0 = y } in not (has keys (Ctx k))) (sym (nat_cmp-IsAntisymmetric q.0 x e)))
    ∙ turned (has keys (Ctx q)) (ctx m q) None

-- one more key, which may be q itself
one_more : {K X : Type 0} (f : K → Option X) (b c : Bool) (q t : K) (old : Option X) → (b ≡ true → q ≡ t) → cond b (f t) (cond c (f q) old) ≡ cond (b || c) (f q) old
one_more f true c q t old is = ap f (sym (is refl))
one_more f false c q t old is = refl

pub term-overlaid : (keys : List Key) (part m : Maps) (q : List ℕ) → term (overlaid keys part m) q ≡ cond (has keys (Term q)) (term part q) (term m q)
term-overlaid [] part m q = refl
term-overlaid (Term t ∷ keys) part m q =
    term-put_term (overlaid keys part m) t (term part t) q
    ∙ ap (cond (bytes_eq q t) (term part t)) (term-overlaid keys part m q)
    ∙ one_more (term part) (bytes_eq q t) (has keys (Term q)) q t (term m q) (same_name q t)
term-overlaid (Ctx n ∷ keys) part m q = term-put_ctx (overlaid keys part m) n (ctx part n) q ∙ term-overlaid keys part m q
term-overlaid (Whole ∷ keys) part m q = term-overlaid keys part m q

pub ctx-overlaid : (keys : List Key) (part m : Maps) (q : CtxNum) → ctx (overlaid keys part m) q ≡ cond (has keys (Ctx q)) (ctx part q) (ctx m q)
ctx-overlaid [] part m q = refl
ctx-overlaid (Term t ∷ keys) part m q = ctx-put_term (overlaid keys part m) t (term part t) q ∙ ctx-overlaid keys part m q
ctx-overlaid (Ctx n ∷ keys) part m q =
    ctx-put_ctx (overlaid keys part m) n (ctx part n) q
    ∙ ap (cond (nat_eq q.0 n.0) (ctx part n)) (ctx-overlaid keys part m q)
    ∙ one_more (ctx part) (nat_eq q.0 n.0) (has keys (Ctx q)) q n (ctx m q) (same_number q n)
ctx-overlaid (Whole ∷ keys) part m q = ctx-overlaid keys part m q

both : {A : Type 0} (b : Bool) (x n : A) → cond b (cond b x n) (cond b n x) ≡ x
both true x n = refl
both false x n = refl

-- a part that is taken out and put back changes nothing
pub put_back : (keys : List Key) (m : Maps) → overlaid keys (restricted keys m) (cut keys m) ≡ m
put_back keys m = same_maps (overlaid keys (restricted keys m) (cut keys m)) m
    (λ q. term-overlaid keys (restricted keys m) (cut keys m) q ∙ (λ i. cond (has keys (Term q)) (term-restricted keys m q i) (term-cut keys m q i)) ∙ both (has keys (Term q)) (term m q) None)
    (λ q. ctx-overlaid keys (restricted keys m) (cut keys m) q ∙ (λ i. cond (has keys (Ctx q)) (ctx-restricted keys m q i) (ctx-cut keys m q i)) ∙ both (has keys (Ctx q)) (ctx m q) None)

-- ---- a part of sound tables is sound

pub shown_member : (t : List ℕ) (n : CtxNum) (keys : List Key) (m : Maps) → is_in t (members_of (ctx (restricted keys m) n)) ≡ true → is_in t (members_of (ctx m n)) ≡ true
shown_member t n keys m h = at (has keys (Ctx n)) (ap (λ o. is_in t (members_of o)) (sym (ctx-restricted keys m n)) ∙ h)
  where
    at : (b : Bool) → is_in t (members_of (cond b (ctx m n) None)) ≡ true → is_in t (members_of (ctx m n)) ≡ true
    at true h = h
    at false h = absurd cc

shown_once : (keys : List Key) (m : Maps) (n : CtxNum) → NoDoubles (members_of (ctx m n)) → NoDoubles (members_of (ctx (restricted keys m) n))
shown_once keys m n d = subst (λ o. NoDoubles (members_of o)) (sym (ctx-restricted keys m n)) (at (has keys (Ctx n)))
  where
    at : (b : Bool) → NoDoubles (members_of (cond b (ctx m n) None))
    at true = d
    at false = tt

pub sound_restricted : (keys : List Key) (m : Maps) → IsSound Every m → IsSound (Only keys) (restricted keys m)
sound_restricted keys m s = record {
  recorded = λ t n k h. ap (λ o. place_of o) (term-restricted keys m t ∙ ap (λ b. cond b (term m t) None) k) ∙ s.recorded t n refl (shown_member t n keys m h);
  once = λ n. shown_once keys m n (s.once n);
}

pub part_restricted : (keys : List Key) (m : Maps) → IsPart (Only keys) (restricted keys m)
part_restricted keys m = record {
  terms = λ t h. listed (has keys (Term t)) (term m t) (ap (λ o. is_some o) (sym (term-restricted keys m t)) ∙ h);
  contexts = λ n h. listed (has keys (Ctx n)) (ctx m n) (ap (λ o. is_some o) (sym (ctx-restricted keys m n)) ∙ h);
}
  where
    listed : {A : Type 0} (b : Bool) (o : Option A) → is_some (cond b o None) ≡ true → b ≡ true
    listed true o h = refl
    listed false o h = absurd cc

pub sound_whole : (limit : ℕ) (m : Maps) → AreWellFormed limit m → IsSound Every m
sound_whole limit m w = record { recorded = λ t n k h. w.recorded t n h; once = w.once }
