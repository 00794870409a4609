-- Accesses that keep to their keys: what they depend on, what they leave, and that those on other keys may go first.
use Rattle.std.proofs.Common.{nat_eq, ◌≡◌, ℕ, Bool, true, false, cond, List, Option, None, bytes_eq, refl, sym, ap, subst, ◌∙◌, inl, inr}
use Rattle.gw_base.specs.declared.ids.CtxNum.{CtxNum}
use Rattle.gw_base.specs.declared.key.Key.{Key}
use Rattle.gw_base.specs.declared.key.Key.TheVariants.{Term, Ctx, Whole}
use Rattle.gw_base.specs.Keys.{has, Among, AreApart}
use Rattle.gw_base.proofs.NameTests.{same_name, same_number}
use Rattle.gw_base.proofs.NamesInLists.{either}
use Rattle.gw_base.proofs.KeyTests.{apart_turned}
use Rattle.gw_term.specs.declared.record.Termination.{Termination}
use Rattle.gw_ctx.specs.Contexts.{ContextRecord}
use Rattle.gw_table.specs.Maps.{Maps, Outcome, term, ctx, put_term, put_ctx, place_of, members_of}
use Rattle.gw_table.specs.Parts.{restricted, overlaid}
use Rattle.gw_table.specs.Accesses.{Accesses, Done, ReadTerm, ReadCtx, ReadAll, PutTerm, PutCtx, effect, and_then, Within, NewIn, NewPlace}
use Rattle.gw_table.proofs.Lookups.{term-put_term, ctx-put_term, term-put_ctx, ctx-put_ctx, same_maps}
use Rattle.gw_table.proofs.PartLookups.{term-restricted, ctx-restricted, term-overlaid, ctx-overlaid}

-- ---- maps that agree at the keys

pub record Agree (keys : List Key) (m n : Maps) : Type 0 where
  pub terms : (t : List ℕ) → has keys (Term t) ≡ true → term m t ≡ term n t
  pub contexts : (c : CtxNum) → has keys (Ctx c) ≡ true → ctx m c ≡ ctx n c
  pub whole : has keys Whole ≡ true → m ≡ n

agree-put_term : (keys : List Key) (m n : Maps) (t : List ℕ) (o : Option Termination) → Agree keys m n → Agree keys (put_term m t o) (put_term n t o)
agree-put_term keys m n t o a = record {
  terms = λ q h. term-put_term m t o q ∙ ap (cond (bytes_eq q t) o) (a.terms q h) ∙ sym (term-put_term n t o q);
  contexts = λ q h. ctx-put_term m t o q ∙ a.contexts q h ∙ sym (ctx-put_term n t o q);
  whole = λ h. ap (λ x. put_term x t o) (a.whole h);
}

agree-put_ctx : (keys : List Key) (m n : Maps) (c : CtxNum) (o : Option ContextRecord) → Agree keys m n → Agree keys (put_ctx m c o) (put_ctx n c o)
agree-put_ctx keys m n c o a = record {
  terms = λ q h. term-put_ctx m c o q ∙ a.terms q h ∙ sym (term-put_ctx n c o q);
  contexts = λ q h. ctx-put_ctx m c o q ∙ ap (cond (nat_eq q.0 c.0) o) (a.contexts q h) ∙ sym (ctx-put_ctx n c o q);
  whole = λ h. ap (λ x. put_ctx x c o) (a.whole h);
}

pub agree_less : (a b : List Key) (m n : Maps) → Among a b → Agree b m n → Agree a m n
agree_less a b m n s g = record {
  terms = λ t h. g.terms t (s (Term t) h);
  contexts = λ c h. g.contexts c (s (Ctx c) h);
  whole = λ h. g.whole (s Whole h);
}

-- ---- within other keys, and on other maps

pub within_alike : {A : Type 0} (keys : List Key) (p : Accesses A) (m n : Maps) → Within keys p m → Agree keys m n → Within keys p n
within_alike keys (Done a) m n w g = tt
within_alike keys (ReadTerm t f) m n w g = (w.0, subst (λ o. Within keys (f o) n) (g.terms t w.0) (within_alike keys (f (term m t)) m n w.1 g))
within_alike keys (ReadCtx c f) m n w g = (w.0, subst (λ o. Within keys (f o) n) (g.contexts c w.0) (within_alike keys (f (ctx m c)) m n w.1 g))
within_alike keys (ReadAll f) m n w g = (w.0, subst (λ o. Within keys (f o) n) (g.whole w.0) (within_alike keys (f m) m n w.1 g))
within_alike keys (PutTerm t o p) m n w g = (w.0, subst (λ x. NewPlace keys (place_of x) (place_of o)) (g.terms t w.0) w.1, within_alike keys p (put_term m t o) (put_term n t o) w.2 (agree-put_term keys m n t o g))
within_alike keys (PutCtx c o p) m n w g = (w.0, subst (λ l. NewIn keys (members_of l) (members_of o)) (g.contexts c w.0) w.1, within_alike keys p (put_ctx m c o) (put_ctx n c o) w.2 (agree-put_ctx keys m n c o g))

pub within_more : {A : Type 0} (a b : List Key) (p : Accesses A) (m : Maps) → Among a b → Within a p m → Within b p m
within_more a b (Done x) m s w = tt
within_more a b (ReadTerm t f) m s w = (s (Term t) w.0, within_more a b (f (term m t)) m s w.1)
within_more a b (ReadCtx c f) m s w = (s (Ctx c) w.0, within_more a b (f (ctx m c)) m s w.1)
within_more a b (ReadAll f) m s w = (s Whole w.0, within_more a b (f m) m s w.1)
within_more a b (PutTerm t o p) m s w = (s (Term t) w.0, λ c e. either (w.1 c e) (λ x. inl x) (λ x. inr (s (Ctx c) x)), within_more a b p (put_term m t o) s w.2)
within_more a b (PutCtx c o p) m s w = (s (Ctx c) w.0, λ q h. either (w.1 q h) (λ x. inl x) (λ x. inr (s (Term q) x)), within_more a b p (put_ctx m c o) s w.2)

-- ---- one after another

pub effect-then : {A B : Type 0} (p : Accesses A) (g : A → Accesses B) (m : Maps) → effect (and_then p g) m ≡ effect (g (effect p m).answer) (effect p m).maps
effect-then (Done a) g m = refl
effect-then (ReadTerm t f) g m = effect-then (f (term m t)) g m
effect-then (ReadCtx c f) g m = effect-then (f (ctx m c)) g m
effect-then (ReadAll f) g m = effect-then (f m) g m
effect-then (PutTerm t o p) g m = effect-then p g (put_term m t o)
effect-then (PutCtx c o p) g m = effect-then p g (put_ctx m c o)

pub within-then : {A B : Type 0} (keys : List Key) (p : Accesses A) (g : A → Accesses B) (m : Maps) → Within keys p m → Within keys (g (effect p m).answer) (effect p m).maps → Within keys (and_then p g) m
within-then keys (Done a) g m w v = v
within-then keys (ReadTerm t f) g m w v = (w.0, within-then keys (f (term m t)) g m w.1 v)
within-then keys (ReadCtx c f) g m w v = (w.0, within-then keys (f (ctx m c)) g m w.1 v)
within-then keys (ReadAll f) g m w v = (w.0, within-then keys (f m) g m w.1 v)
within-then keys (PutTerm t o p) g m w v = (w.0, w.1, within-then keys p g (put_term m t o) w.2 v)
within-then keys (PutCtx c o p) g m w v = (w.0, w.1, within-then keys p g (put_ctx m c o) w.2 v)

pub within-cond : {A : Type 0} (keys : List Key) (b : Bool) (p q : Accesses A) (m : Maps) → Within keys p m → Within keys q m → Within keys (cond b p q) m
within-cond keys true p q m v w = v
within-cond keys false p q m v w = w

-- ---- the effect depends on the keys alone

-- nothing is said of what maps have elsewhere
pub record Alike {A : Type 0} (keys : List Key) (x y : Outcome A) : Type 0 where
  pub answer : x.answer ≡ y.answer
  pub agree : Agree keys x.maps y.maps

pub effect_alike : {A : Type 0} (keys : List Key) (p : Accesses A) (m n : Maps) → Within keys p m → Agree keys m n → Alike keys (effect p m) (effect p n)
effect_alike keys (Done a) m n w g = record { answer = refl; agree = g }
effect_alike keys (ReadTerm t f) m n w g = subst (λ o. Alike keys (effect (f (term m t)) m) (effect (f o) n)) (g.terms t w.0) (effect_alike keys (f (term m t)) m n w.1 g)
effect_alike keys (ReadCtx c f) m n w g = subst (λ o. Alike keys (effect (f (ctx m c)) m) (effect (f o) n)) (g.contexts c w.0) (effect_alike keys (f (ctx m c)) m n w.1 g)
effect_alike keys (ReadAll f) m n w g = subst (λ o. Alike keys (effect (f m) m) (effect (f o) n)) (g.whole w.0) (effect_alike keys (f m) m n w.1 g)
effect_alike keys (PutTerm t o p) m n w g = effect_alike keys p (put_term m t o) (put_term n t o) w.2 (agree-put_term keys m n t o g)
effect_alike keys (PutCtx c o p) m n w g = effect_alike keys p (put_ctx m c o) (put_ctx n c o) w.2 (agree-put_ctx keys m n c o g)

-- ---- all else stays

pub record Apart (keys : List Key) (m n : Maps) : Type 0 where
  pub terms : (t : List ℕ) → has keys (Term t) ≡ false → term n t ≡ term m t
  pub contexts : (c : CtxNum) → has keys (Ctx c) ≡ false → ctx n c ≡ ctx m c

-- a key outside is not the one that is written
not_it : {K : Type 0} (f : K → Key) (keys : List Key) (b : Bool) (q t : K) → (b ≡ true → q ≡ t) → has keys (f t) ≡ true → has keys (f q) ≡ false → b ≡ false
not_it f keys true q t is one other = absurd (let clash : true ≡ false = sym one ∙ ap (λ y. has keys (f y)) (sym (is refl)) ∙ other in cc)
not_it f keys false q t is one other = refl

pub effect_apart : {A : Type 0} (keys : List Key) (p : Accesses A) (m : Maps) → Within keys p m → Apart keys m (effect p m).maps
effect_apart keys (Done a) m w = record { terms = λ q h. refl; contexts = λ q h. refl }
effect_apart keys (ReadTerm t f) m w = effect_apart keys (f (term m t)) m w.1
effect_apart keys (ReadCtx c f) m w = effect_apart keys (f (ctx m c)) m w.1
effect_apart keys (ReadAll f) m w = effect_apart keys (f m) m w.1
effect_apart keys (PutTerm t o p) m w =
    let rest : Apart keys (put_term m t o) (effect p (put_term m t o)).maps = effect_apart keys p (put_term m t o) w.2 in
    record {
      terms = λ q h. rest.terms q h ∙ term-put_term m t o q ∙ ap (λ b. cond b o (term m q)) (not_it (λ k. Term k) keys (bytes_eq q t) q t (same_name q t) w.0 h);
      contexts = λ q h. rest.contexts q h ∙ ctx-put_term m t o q;
    }
effect_apart keys (PutCtx c o p) m w =
    let rest : Apart keys (put_ctx m c o) (effect p (put_ctx m c o)).maps = effect_apart keys p (put_ctx m c o) w.2 in
    record {
      terms = λ q h. rest.terms q h ∙ term-put_ctx m c o q;
      contexts = λ q h. rest.contexts q h ∙ ctx-put_ctx m c o q ∙ ap (λ b. cond b o (ctx m q)) (not_it (λ k. Ctx k) keys (nat_eq q.0 c.0) q c (same_number q c) w.0 h);
    }

-- ---- the entries of the keys suffice

-- with the whole among the keys, each key of the maps is listed
abbrev pub Lists : List Key → Maps → Type 0
Lists keys m = has keys Whole ≡ true → m ≡ restricted keys m

agree-restricted : (keys : List Key) (m : Maps) → Lists keys m → Agree keys m (restricted keys m)
agree-restricted keys m all = record {
  terms = λ q h. sym (term-restricted keys m q ∙ ap (λ b. cond b (term m q) None) h);
  contexts = λ q h. sym (ctx-restricted keys m q ∙ ap (λ b. cond b (ctx m q) None) h);
  whole = all;
}

side : {X : Type 0} (b : Bool) (x y z : X) → (b ≡ true → x ≡ z) → (b ≡ false → y ≡ z) → cond b x y ≡ z
side true x y z p q = p refl
side false x y z p q = q refl

-- the effect on the keys' entries alone gives the answer, and the new entries laid over the old maps are the new maps
pub record IsLocal {A : Type 0} (keys : List Key) (p : Accesses A) (m : Maps) : Type 0 where
  pub answer : (effect p (restricted keys m)).answer ≡ (effect p m).answer
  pub maps : overlaid keys (effect p (restricted keys m)).maps m ≡ (effect p m).maps

pub local : {A : Type 0} (keys : List Key) (p : Accesses A) (m : Maps) → Within keys p m → Lists keys m → IsLocal keys p m
local keys p m w all =
    let a : Alike keys (effect p m) (effect p (restricted keys m)) = effect_alike keys p m (restricted keys m) w (agree-restricted keys m all) in
    let o : Apart keys m (effect p m).maps = effect_apart keys p m w in
    let part : Maps = (effect p (restricted keys m)).maps in
    record {
      answer = sym a.answer;
      maps = same_maps (overlaid keys part m) (effect p m).maps
          (λ q. term-overlaid keys part m q ∙ side (has keys (Term q)) (term part q) (term m q) (term (effect p m).maps q) (λ h. sym (a.agree.terms q h)) (λ h. sym (o.terms q h)))
          (λ q. ctx-overlaid keys part m q ∙ side (has keys (Ctx q)) (ctx part q) (ctx m q) (ctx (effect p m).maps q) (λ h. sym (a.agree.contexts q h)) (λ h. sym (o.contexts q h)));
    }

-- ---- accesses at keys that are apart, in either order

pub agree-apart : (a b : List Key) (m n : Maps) → AreApart a b → Apart a m n → Agree b m n
agree-apart a b m n h o = record {
  terms = λ q is. sym (o.terms q ((apart_turned a b h).keys (Term q) is));
  contexts = λ q is. sym (o.contexts q ((apart_turned a b h).keys (Ctx q) is));
  whole = λ is. absurd (let clash : true ≡ false = sym is ∙ h.whole_b in cc);
}

pub record Commute {A B : Type 0} (p : Accesses A) (q : Accesses B) (m : Maps) : Type 0 where
  pub first : (effect p (effect q m).maps).answer ≡ (effect p m).answer
  pub second : (effect q (effect p m).maps).answer ≡ (effect q m).answer
  pub maps : (effect q (effect p m).maps).maps ≡ (effect p (effect q m).maps).maps

-- at one entry: q leaves it alone, or else p does
meet : {X : Type 0} (x y : Bool) (pq qp p q m : X) → (x ≡ true → y ≡ false) → (y ≡ false → pq ≡ p) → (x ≡ true → qp ≡ p) → (y ≡ true → pq ≡ q) → (x ≡ false → qp ≡ q) → (x ≡ false → p ≡ m) → (y ≡ false → q ≡ m) → pq ≡ qp
meet true y pq qp p q m n a b c d e f = a (n refl) ∙ sym (b refl)
meet false true pq qp p q m n a b c d e f = c refl ∙ sym (d refl)
meet false false pq qp p q m n a b c d e f = a refl ∙ e refl ∙ sym (f refl) ∙ sym (d refl)

pub commute : {A B : Type 0} (a b : List Key) (p : Accesses A) (q : Accesses B) (m : Maps) → Within a p m → Within b q m → AreApart a b → Commute p q m
commute a b p q m wp wq h =
    let mp : Maps = (effect p m).maps in
    let mq : Maps = (effect q m).maps in
    let op : Apart a m mp = effect_apart a p m wp in
    let oq : Apart b m mq = effect_apart b q m wq in
    let agree_q : Agree a m mq = agree-apart b a m mq (apart_turned a b h) oq in
    let agree_p : Agree b m mp = agree-apart a b m mp h op in
    let pa : Alike a (effect p m) (effect p mq) = effect_alike a p m mq wp agree_q in
    let qa : Alike b (effect q m) (effect q mp) = effect_alike b q m mp wq agree_p in
    let oq' : Apart b mp (effect q mp).maps = effect_apart b q mp (within_alike b q m mp wq agree_p) in
    let op' : Apart a mq (effect p mq).maps = effect_apart a p mq (within_alike a p m mq wp agree_q) in
    record {
      first = sym pa.answer;
      second = sym qa.answer;
      maps = same_maps (effect q mp).maps (effect p mq).maps
          (λ k. meet (has a (Term k)) (has b (Term k)) (term (effect q mp).maps k) (term (effect p mq).maps k) (term mp k) (term mq k) (term m k) (h.keys (Term k)) (oq'.terms k) (λ is. sym (pa.agree.terms k is)) (λ is. sym (qa.agree.terms k is)) (op'.terms k) (op.terms k) (oq.terms k))
          (λ k. meet (has a (Ctx k)) (has b (Ctx k)) (ctx (effect q mp).maps k) (ctx (effect p mq).maps k) (ctx mp k) (ctx mq k) (ctx m k) (h.keys (Ctx k)) (oq'.contexts k) (λ is. sym (pa.agree.contexts k is)) (λ is. sym (qa.agree.contexts k is)) (op'.contexts k) (op.contexts k) (oq.contexts k));
    }
