-- What is out of the maps while jobs are open, and what is read in the maps meanwhile.
use Rattle.std.proofs.Common.{◌≡◌, Bool, true, false, cond, List, [], ◌∷◌, ◌++◌, Option, None, refl, sym, ap, ◌∙◌}
use Rattle.std.specs.Prelude.{◌||◌}
use Rattle.std.specs.List.{list_any}
use Rattle.gw_base.specs.declared.key.Key.{Key}
use Rattle.gw_base.specs.declared.key.Key.TheVariants.{Term, Ctx, Whole}
use Rattle.gw_base.specs.Keys.{has, same_key, AreApart}
use Rattle.gw_table.specs.Maps.{Maps, Outcome, term, ctx}
use Rattle.gw_table.specs.Locality.{KeepsTo}
use Rattle.gw_table.specs.Parts.{restricted, cut, overlaid}
use Rattle.gw_table.proofs.Frames.{Agree}
use Rattle.gw_table.proofs.Lookups.{same_maps}
use Rattle.gw_table.proofs.PartLookups.{term-restricted, ctx-restricted, term-cut, ctx-cut, term-overlaid, ctx-overlaid}
use Rattle.gw_board.specs.Core.{Standing, Pending, Opened, Closed, Place}
use Rattle.gw_board.specs.Fitting.{Each, out_at, out}

-- ---- maps

module _ {X : Type 0} where
  cut_twice : (b c : Bool) (x : Option X) → cond b None (cond c None x) ≡ cond (b || c) None x
  cut_twice true c x = refl
  cut_twice false c x = refl

  laid_beside : (b c d : Bool) (new x : Option X) → d ≡ (b || c) → (b ≡ true → c ≡ false) → cond b new (cond d None x) ≡ cond c None (cond b new x)
  laid_beside true true d new x e f = absurd (let clash : true ≡ false = f refl in cc)
  laid_beside true false d new x e f = refl
  laid_beside false c d new x e f = ap (λ y. cond y None x) e

  outside : (b : Bool) (x : Option X) → b ≡ false → cond b None x ≡ x
  outside true x h = absurd cc
  outside false x h = refl

  visible : (b : Bool) (x y : Option X) → (b ≡ true → x ≡ y) → cond b x None ≡ cond b y None
  visible true x y f = f refl
  visible false x y f = refl

-- what is out in two steps
pub cut_more : (k o l : List Key) (m : Maps) → ((q : Key) → has l q ≡ (has k q || has o q)) → cut k (cut o m) ≡ cut l m
cut_more k o l m h = same_maps (cut k (cut o m)) (cut l m)
    (λ q. term-cut k (cut o m) q ∙ ap (cond (has k (Term q)) None) (term-cut o m q) ∙ cut_twice (has k (Term q)) (has o (Term q)) (term m q) ∙ ap (λ b. cond b None (term m q)) (sym (h (Term q))) ∙ sym (term-cut l m q))
    (λ q. ctx-cut k (cut o m) q ∙ ap (cond (has k (Ctx q)) None) (ctx-cut o m q) ∙ cut_twice (has k (Ctx q)) (has o (Ctx q)) (ctx m q) ∙ ap (λ b. cond b None (ctx m q)) (sym (h (Ctx q))) ∙ sym (ctx-cut l m q))

-- a part laid over the maps without it and others, and laid over the whole
pub laid_on : (k o l : List Key) (part m : Maps) → ((q : Key) → has l q ≡ (has k q || has o q)) → ((q : Key) → has k q ≡ true → has o q ≡ false) → overlaid k part (cut l m) ≡ cut o (overlaid k part m)
laid_on k o l part m h f = same_maps (overlaid k part (cut l m)) (cut o (overlaid k part m))
    (λ q. term-overlaid k part (cut l m) q ∙ ap (cond (has k (Term q)) (term part q)) (term-cut l m q) ∙ laid_beside (has k (Term q)) (has o (Term q)) (has l (Term q)) (term part q) (term m q) (h (Term q)) (f (Term q))
    ∙ ap (cond (has o (Term q)) None) (sym (term-overlaid k part m q)) ∙ sym (term-cut o (overlaid k part m) q))
    (λ q. ctx-overlaid k part (cut l m) q ∙ ap (cond (has k (Ctx q)) (ctx part q)) (ctx-cut l m q) ∙ laid_beside (has k (Ctx q)) (has o (Ctx q)) (has l (Ctx q)) (ctx part q) (ctx m q) (h (Ctx q)) (f (Ctx q))
    ∙ ap (cond (has o (Ctx q)) None) (sym (ctx-overlaid k part m q)) ∙ sym (ctx-cut o (overlaid k part m) q))

pub cut_none : (o : List Key) (m : Maps) → ((q : Key) → has o q ≡ false) → cut o m ≡ m
cut_none o m h = same_maps (cut o m) m
    (λ q. term-cut o m q ∙ outside (has o (Term q)) (term m q) (h (Term q)))
    (λ q. ctx-cut o m q ∙ outside (has o (Ctx q)) (ctx m q) (h (Ctx q)))

pub restricted_alike : (k : List Key) (m n : Maps) → Agree k m n → restricted k m ≡ restricted k n
restricted_alike k m n g = same_maps (restricted k m) (restricted k n)
    (λ q. term-restricted k m q ∙ visible (has k (Term q)) (term m q) (term n q) (g.terms q) ∙ sym (term-restricted k n q))
    (λ q. ctx-restricted k m q ∙ visible (has k (Ctx q)) (ctx m q) (ctx n q) (g.contexts q) ∙ sym (ctx-restricted k n q))

pub agree_turned : (k : List Key) (m n : Maps) → Agree k m n → Agree k n m
agree_turned k m n g = record { terms = λ t h. sym (g.terms t h); contexts = λ c h. sym (g.contexts c h); whole = λ h. sym (g.whole h) }

-- ---- keys that are listed otherwise

abbrev pub SameKeys : List Key → List Key → Type 0
SameKeys k l = (q : Key) → has k q ≡ has l q

pub restricted_same : (k l : List Key) (m : Maps) → SameKeys k l → restricted k m ≡ restricted l m
restricted_same k l m h = same_maps (restricted k m) (restricted l m)
    (λ q. term-restricted k m q ∙ ap (λ b. cond b (term m q) None) (h (Term q)) ∙ sym (term-restricted l m q))
    (λ q. ctx-restricted k m q ∙ ap (λ b. cond b (ctx m q) None) (h (Ctx q)) ∙ sym (ctx-restricted l m q))

pub overlaid_same : (k l : List Key) (part m : Maps) → SameKeys k l → overlaid k part m ≡ overlaid l part m
overlaid_same k l part m h = same_maps (overlaid k part m) (overlaid l part m)
    (λ q. term-overlaid k part m q ∙ ap (λ b. cond b (term part q) (term m q)) (h (Term q)) ∙ sym (term-overlaid l part m q))
    (λ q. ctx-overlaid k part m q ∙ ap (λ b. cond b (ctx part q) (ctx m q)) (h (Ctx q)) ∙ sym (ctx-overlaid l part m q))

pub apart_left : (k l b : List Key) → SameKeys k l → AreApart k b → AreApart l b
apart_left k l b h a = record { keys = λ q i. a.keys q (h q ∙ i); whole_a = sym (h Whole) ∙ a.whole_a; whole_b = a.whole_b }

pub apart_right : (b k l : List Key) → SameKeys k l → AreApart b k → AreApart b l
apart_right b k l h a = record { keys = λ q i. sym (h q) ∙ a.keys q i; whole_a = a.whole_a; whole_b = sym (h Whole) ∙ a.whole_b }

pub keeps_same : {A : Type 0} (k l : List Key) (f : Maps → Outcome A) (m : Maps) → SameKeys k l → KeepsTo k f m → KeepsTo l f m
keeps_same {A} k l f m h a =
    let part : restricted l m ≡ restricted k m = sym (restricted_same k l m h) in
    record {
      answer = ap (λ (n : Maps). (f n).answer) part ∙ a.answer;
      maps = ap (λ (n : Maps). overlaid l (f n).maps m) part ∙ sym (overlaid_same k l (f (restricted k m)).maps m h) ∙ a.maps;
      terms = λ t i. a.terms t (h (Term t) ∙ i);
      contexts = λ n i. a.contexts n (h (Ctx n) ∙ i);
    }

-- ---- keys clear of what is out

-- none of these keys is out, and with the whole among them nothing is
pub record Clear (keys out : List Key) : Type 0 where
  pub none : (q : Key) → has keys q ≡ true → has out q ≡ false
  pub nothing : has keys Whole ≡ true → (q : Key) → has out q ≡ false

pub clear_same : (k l o : List Key) → SameKeys k l → Clear k o → Clear l o
clear_same k l o h c = record { none = λ q i. c.none q (h q ∙ i); nothing = λ i. c.nothing (h Whole ∙ i) }

pub agree_clear : (k o : List Key) (m : Maps) → Clear k o → Agree k (cut o m) m
agree_clear k o m c = record {
  terms = λ q h. term-cut o m q ∙ outside (has o (Term q)) (term m q) (c.none (Term q) h);
  contexts = λ q h. ctx-cut o m q ∙ outside (has o (Ctx q)) (ctx m q) (c.none (Ctx q) h);
  whole = λ h. cut_none o m (c.nothing h);
}

-- ---- what places have out

pub any-append : {X : Type 0} (p : X → Bool) (xs ys : List X) → list_any p (xs ++ ys) ≡ (list_any p xs || list_any p ys)
any-append p [] ys = refl
any-append p (x ∷ xs) ys = ap (λ b. p x || b) (any-append p xs ys) ∙ sym (grouped (p x) (list_any p xs) (list_any p ys))
  where
    grouped : (a b c : Bool) → ((a || b) || c) ≡ (a || (b || c))
    grouped true b c = refl
    grouped false b c = refl

swapped : (a b c : Bool) → (a || (b || c)) ≡ (b || (a || c))
swapped true true c = refl
swapped true false c = refl
swapped false b c = refl

grouped_left : (a b c : Bool) → (a || (b || c)) ≡ ((a || b) || c)
grouped_left true b c = refl
grouped_left false b c = refl

-- before a place and behind it
pub out-append : (before after : List Place) (q : Key) → has (out (before ++ after)) q ≡ (has (out before) q || has (out after) q)
out-append [] after q = refl
out-append (p ∷ ps) after q =
    any-append (same_key q) (out_at p.standing) (out (ps ++ after))
    ∙ ap (λ b. has (out_at p.standing) q || b) (out-append ps after q)
    ∙ grouped_left (has (out_at p.standing) q) (has (out ps) q) (has (out after) q)
    ∙ ap (λ b. b || has (out after) q) (sym (any-append (same_key q) (out_at p.standing) (out ps)))

-- at a place and elsewhere
pub out-place : (before after : List Place) (p : Place) (q : Key) → has (out (before ++ p ∷ after)) q ≡ (has (out_at p.standing) q || has (out (before ++ after)) q)
out-place before after p q =
    out-append before (p ∷ after) q
    ∙ ap (λ b. has (out before) q || b) (any-append (same_key q) (out_at p.standing) (out after))
    ∙ swapped (has (out before) q) (has (out_at p.standing) q) (has (out after) q)
    ∙ ap (λ b. has (out_at p.standing) q || b) (sym (out-append before after q))

-- keys apart from those of each open job
abbrev pub ApartAt : List Key → Standing → Type 0
ApartAt keys Pending = Unit {0}
ApartAt keys (Opened j) = AreApart keys j.keys
ApartAt keys (Closed reply) = Unit {0}

abbrev pub ApartFromOpen : List Key → Place → Type 0
ApartFromOpen keys p = ApartAt keys p.standing

none_of : (b c : Bool) → b ≡ false → c ≡ false → (b || c) ≡ false
none_of true c h g = absurd cc
none_of false c h g = g

clear_more : (keys : List Key) (x : Standing) (o : List Key) → ApartAt keys x → Clear keys o → Clear keys (out_at x ++ o)
clear_more keys Pending o a c = c
clear_more keys (Closed reply) o a c = c
clear_more keys (Opened j) o a c = record {
  none = λ q h. any-append (same_key q) j.keys o ∙ none_of (has j.keys q) (has o q) (a.keys q h) (c.none q h);
  nothing = λ h. absurd (let clash : true ≡ false = sym h ∙ a.whole_a in cc);
}

pub clear_out : (keys : List Key) (places : List Place) → Each (ApartFromOpen keys) places → Clear keys (out places)
clear_out keys [] h = record { none = λ q h. refl; nothing = λ h q. refl }
clear_out keys (p ∷ ps) h = clear_more keys p.standing (out ps) h.0 (clear_out keys ps h.1)

pub cut_alike : (k l : List Key) (m : Maps) → ((q : Key) → has l q ≡ has k q) → cut k m ≡ cut l m
cut_alike k l m h = sym (cut_none [] (cut k m) (λ q. refl)) ∙ cut_more [] k l m h
