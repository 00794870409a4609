-- What is single accesses keeps to the keys of those, and changes places with what keeps to others; and what stays beside a part.
use Rattle.std.proofs.Common.{◌≡◌, Bool, true, false, cond, List, Option, None, Some, is_some, refl, sym, ap, ◌∙◌, inl}
use Rattle.gw_base.specs.declared.ids.CtxNum.{CtxNum}
use Rattle.gw_base.specs.declared.key.Key.{Key}
use Rattle.gw_base.specs.declared.key.Key.TheVariants.{Term, Ctx}
use Rattle.gw_base.specs.Keys.{has, Among, AreApart}
use Rattle.gw_table.specs.Accesses.{Accesses, effect, Within}
use Rattle.gw_table.specs.Locality.{KeepsTo, ChangePlaces}
use Rattle.gw_table.specs.Maps.{Maps, Outcome, term, ctx, place_of}
use Rattle.gw_table.specs.Parts.{Only, IsPart, restricted, cut, overlaid}
use Rattle.gw_table.proofs.Frames.{Agree, Apart, effect_apart, Lists, IsLocal, local, Commute, commute}
use Rattle.gw_table.proofs.Growth.{Grows}
use Rattle.gw_table.proofs.Lookups.{same_maps}
use Rattle.gw_table.proofs.PartLookups.{term-restricted, ctx-restricted, term-cut, ctx-cut, shown_member}

-- ---- functions that are accesses

pub keeps_to : {A : Type 0} (keys : List Key) (p : Accesses A) (f : Maps → Outcome A) (m : Maps) → ((n : Maps) → effect p n ≡ f n) → Within keys p m → Lists keys m → KeepsTo keys f m
keeps_to {A} keys p f m is w all =
    let here : IsLocal keys p m = local keys p m w all in
    let rest : Apart keys m (effect p m).maps = effect_apart keys p m w in
    let at_part : effect p (restricted keys m) ≡ f (restricted keys m) = is (restricted keys m) in
    record {
      answer = ap (λ (o : Outcome A). o.answer) (sym at_part) ∙ here.answer ∙ ap (λ (o : Outcome A). o.answer) (is m);
      maps = ap (λ (o : Outcome A). overlaid keys o.maps m) (sym at_part) ∙ here.maps ∙ ap (λ (o : Outcome A). o.maps) (is m);
      terms = λ t h. ap (λ (o : Outcome A). term o.maps t) (sym (is m)) ∙ rest.terms t h;
      contexts = λ n h. ap (λ (o : Outcome A). ctx o.maps n) (sym (is m)) ∙ rest.contexts n h;
    }

pub change_places : {A B : Type 0} (a b : List Key) (p : Accesses A) (q : Accesses B) (f : Maps → Outcome A) (g : Maps → Outcome B) (m : Maps) → ((n : Maps) → effect p n ≡ f n) → ((n : Maps) → effect q n ≡ g n) → Within a p m → Within b q m → AreApart a b → ChangePlaces f g m
change_places {A} {B} a b p q f g m is js wp wq h =
    let c : Commute p q m = commute a b p q m wp wq h in
    let fg : effect p (effect q m).maps ≡ f (g m).maps = is (effect q m).maps ∙ ap (λ (o : Outcome B). f o.maps) (js m) in
    let gf : effect q (effect p m).maps ≡ g (f m).maps = js (effect p m).maps ∙ ap (λ (o : Outcome A). g o.maps) (is m) in
    record {
      first = ap (λ (o : Outcome A). o.answer) (sym fg) ∙ c.first ∙ ap (λ (o : Outcome A). o.answer) (is m);
      second = ap (λ (o : Outcome B). o.answer) (sym gf) ∙ c.second ∙ ap (λ (o : Outcome B). o.answer) (js m);
      maps = ap (λ (o : Outcome B). o.maps) (sym gf) ∙ c.maps ∙ ap (λ (o : Outcome A). o.maps) fg;
    }

-- ---- maps with no entry but at the keys

-- accesses at the keys leave no entry elsewhere
pub part_after : {A : Type 0} (keys : List Key) (p : Accesses A) (m : Maps) → Within keys p m → IsPart (Only keys) m → IsPart (Only keys) (effect p m).maps
part_after keys p m w part =
    let rest : Apart keys m (effect p m).maps = effect_apart keys p m w in
    record {
      terms = λ t h. at (has keys (Term t)) (term (effect p m).maps t) (term m t) (rest.terms t) (part.terms t) h;
      contexts = λ n h. at (has keys (Ctx n)) (ctx (effect p m).maps n) (ctx m n) (rest.contexts n) (part.contexts n) h;
    }
  where
    at : {X : Type 0} (b : Bool) (new old : Option X) → (b ≡ false → new ≡ old) → (is_some old ≡ true → b ≡ true) → is_some new ≡ true → b ≡ true
    at true new old same listed h = refl
    at false new old same listed h = listed (ap (λ o. is_some o) (sym (same refl)) ∙ h)

pub part_more : (a b : List Key) (m : Maps) → Among a b → IsPart (Only a) m → IsPart (Only b) m
part_more a b m s part = record { terms = λ t h. s (Term t) (part.terms t h); contexts = λ n h. s (Ctx n) (part.contexts n h) }

-- the entries of the keys are all that there are
pub part_is_all : (keys : List Key) (m : Maps) → IsPart (Only keys) m → m ≡ restricted keys m
part_is_all keys m part = same_maps m (restricted keys m)
    (λ q. sym (term-restricted keys m q ∙ kept (has keys (Term q)) (term m q) (part.terms q)))
    (λ q. sym (ctx-restricted keys m q ∙ kept (has keys (Ctx q)) (ctx m q) (part.contexts q)))
  where
    kept : {X : Type 0} (b : Bool) (o : Option X) → (is_some o ≡ true → b ≡ true) → cond b o None ≡ o
    kept true o h = refl
    kept false None h = refl
    kept false (Some x) h = let clash : false ≡ true = h refl in cc

-- in a part nobody is new
pub part_grows : (keys : List Key) (m : Maps) → Grows (Only keys) m (restricted keys m)
part_grows keys m = record {
  places = λ t c e. inl (at (has keys (Term t)) (term m t) c (ap (λ o. place_of o) (sym (term-restricted keys m t)) ∙ e));
  members = λ c t h. inl (shown_member t c keys m h);
}
  where
    at : (b : Bool) (o : Option Rattle.gw_term.specs.declared.record.Termination.Termination) (c : CtxNum) → place_of (cond b o None) ≡ Some c → place_of o ≡ Some c
    at true o c e = e
    at false o c e = absurd cc

-- ---- maps without the entries of other keys

outside : {X : Type 0} (b : Bool) (x y : X) → b ≡ false → cond b y x ≡ x
outside true x y h = absurd cc
outside false x y h = refl

pub agree_cut : (keys out : List Key) (m : Maps) → AreApart keys out → Agree keys (cut out m) m
agree_cut keys out m h = record {
  terms = λ q is. term-cut out m q ∙ outside (has out (Term q)) (term m q) None (h.keys (Term q) is);
  contexts = λ q is. ctx-cut out m q ∙ outside (has out (Ctx q)) (ctx m q) None (h.keys (Ctx q) is);
  whole = λ is. absurd (let clash : true ≡ false = sym is ∙ h.whole_a in cc);
}

-- the part of keys is the same while other keys' entries are out
pub part_beside : (keys out : List Key) (m : Maps) → AreApart keys out → restricted keys (cut out m) ≡ restricted keys m
part_beside keys out m h = same_maps (restricted keys (cut out m)) (restricted keys m)
    (λ q. term-restricted keys (cut out m) q ∙ at (has keys (Term q)) (term (cut out m) q) (term m q) ((agree_cut keys out m h).terms q) ∙ sym (term-restricted keys m q))
    (λ q. ctx-restricted keys (cut out m) q ∙ at (has keys (Ctx q)) (ctx (cut out m) q) (ctx m q) ((agree_cut keys out m h).contexts q) ∙ sym (ctx-restricted keys m q))
  where
    at : {X : Type 0} (b : Bool) (x y : Option X) → (b ≡ true → x ≡ y) → cond b x None ≡ cond b y None
    at true x y f = f refl
    at false x y f = refl
