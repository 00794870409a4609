-- Places that are made, and places that are swept; and a key of a list in order, which is none of those before it.
use Rattle.std.proofs.lemmas.Grind.{common_steps}
use Rattle.std.proofs.Common.{◌≡◌, ℕ, suc, zero, ◌+◌, ◌<◌, Bool, true, false, cond, List, [], ◌∷◌, ◌++◌, length, get_or, take, bytes_eq, Option, None, Some, is_some, refl, sym, subst, ap, ◌∙◌, arith}
use Rattle.std.proofs.lemmas.List.{take_more}
use Rattle.std.specs.Prelude.{◌||◌}
use Rattle.std.specs.Cmp.{IsTotalOrder}
use Rattle.std.specs.FinMap as finite
use Rattle.std.specs.FinMap.{from_entries, get}
use Rattle.std.specs.List.{AllByRecursion}
use Rattle.std.specs.List.Sorted.{IsStrictlySortedBy}
use Rattle.std.specs.Map.{lookup}
use Rattle.std.specs.BTreeMap.{is_at}
use Rattle.std.specs.Ordering.{is_eq}
use Rattle.std.specs.declared.cmp.Ordering.{Ordering}
use Rattle.std.specs.declared.cmp.Ordering.TheVariants.{Less}
use Rattle.gw_base.specs.declared.ids.CtxNum.{CtxNum}
use Rattle.gw_base.specs.declared.key.Key.{Key}
use Rattle.gw_base.specs.declared.key.Key.TheVariants.{Term, Ctx, Whole}
use Rattle.gw_base.specs.Keys.{same_key, has}
use Rattle.gw_base.proofs.Booleans.{refuted}
use Rattle.gw_base.proofs.KeyTests.{has-head, has-tail}
use Rattle.gw_base.proofs.NameTests.{same_name}
use Rattle.gw_base.proofs.NamesInLists.{or_left, or_right, or_cases, either}
use Rattle.gw_base.proofs.Views.{seen}
use Rattle.gw_table.specs.declared.place.Place.{Place}
use Rattle.gw_table.specs.declared.place.Place.TheVariants.{Empty}
use Rattle.gw_table.specs.Cells.{cell_from, with_cell, IsFound}
use Rattle.gw_table.specs.KeyLists.{key_cmp, IsInOrder}
use Rattle.gw_table.specs.Stored.{Stored, visible, if_visible, has_left, maps_of, is_ready, put_term_place, put_ctx_place, with_out, AreMoved, ArePrepared, AreAsOut, NoneIsOut, AreSwept, AreReady, NoOtherReady}
use Rattle.gw_table.proofs.KeyOrder.{key_test, same_key_is}
use Rattle.gw_table.proofs.Moved.{moved_more, ready_left}
use Rattle.gw_table.proofs.Places.{term-maps_of, ctx-maps_of, shown_alike, got_term, got_ctx}

-- ---- places are made

or_nothing : (b : Bool) → b ≡ (b || false)
or_nothing b = grind arith

-- a key that was prepared
there_already : {K A : Type 0} (f : K → Option A) (b : Bool) (q t : K) → (b ≡ true → q ≡ t) → is_some (f t) ≡ true → is_some (f q) ≡ (is_some (f q) || (b || false))
there_already f b q t is h = grind arith

pub term_there : (s : Stored) (t : List ℕ) → is_ready s (Term t) ≡ true → ArePrepared (Term t ∷ []) s s
term_there s t h = grind (arith, there_already, same_name)

pub ctx_there : (s : Stored) (n : CtxNum) → is_ready s (Ctx n) ≡ true → ArePrepared (Ctx n ∷ []) s s
ctx_there s n h = grind arith

-- one that was not
module _ {K A : Type 0} (f : K → Option (Place A)) (q t : K) (none : f t ≡ None) where
  same_shown : (b : Bool) → (b ≡ true → q ≡ t) → visible (cond b (Some Empty) (f q)) ≡ visible (f q)
  same_shown true is = sym (ap (λ y. visible (f y)) (is refl) ∙ ap (λ o. visible o) none)
  same_shown false is = refl

  same_out : (b : Bool) → (b ≡ true → q ≡ t) → has_left (cond b (Some Empty) (f q)) ≡ has_left (f q)
  same_out true is = sym (ap (λ y. has_left (f y)) (is refl) ∙ ap (λ o. has_left o) none)
  same_out false is = refl

  now_there : (b : Bool) → (b ≡ true → q ≡ t) → is_some (cond b (Some Empty) (f q)) ≡ (is_some (f q) || (b || false))
  now_there true is = sym (ap (λ y. y || true) (ap (λ y. is_some (f y)) (is refl) ∙ ap (λ o. is_some o) none))
  now_there false is = or_nothing (is_some (f q))

pub term_made : (s : Stored) (t : List ℕ) → finite.get s.terms t ≡ None → ArePrepared (Term t ∷ []) s (put_term_place s t Empty)
term_made s t none = record {
  maps = shown_alike (put_term_place s t Empty) s (λ q. ap (λ o. visible o) (got_term s t Empty q) ∙ same_shown (λ y. finite.get s.terms y) q t none (bytes_eq q t) (same_name q t)) (λ n. refl);
  out = out;
  ready = ready;
}
  where
    out : AreAsOut s (put_term_place s t Empty)
    out (Term q) = ap (λ o. has_left o) (got_term s t Empty q) ∙ same_out (λ y. finite.get s.terms y) q t none (bytes_eq q t) (same_name q t)
    out (Ctx n) = refl
    out Whole = refl

    ready : (k : Key) → is_ready (put_term_place s t Empty) k ≡ (is_ready s k || has (Term t ∷ []) k)
    ready (Term q) = ap (λ o. is_some o) (got_term s t Empty q) ∙ now_there (λ y. finite.get s.terms y) q t none (bytes_eq q t) (same_name q t)
    ready (Ctx n) = or_nothing (is_ready s (Ctx n))
    ready Whole = refl

pub ctx_made : (s : Stored) (n : CtxNum) → finite.get s.contexts n.0 ≡ None → ArePrepared (Ctx n ∷ []) s (put_ctx_place s n Empty)
ctx_made s n none = grind (arith, shown_alike, got_ctx)

-- ---- what follows of the keys so far, and of all

any_front : (x : Key) (keys : List Key) (i : ℕ) → has keys x ≡ false → has (take i keys) x ≡ false
any_front x keys zero h = refl
any_front x [] (suc i) h = refl
any_front x (y ∷ ys) (suc i) h = grind (arith, any_front x ys i)

pub no_other_ready : (keys : List Key) (i : ℕ) (a b : Stored) → ArePrepared (take i keys) a b → NoOtherReady keys a b
no_other_ready keys i a b p k off h = grind (arith, any_front)

-- ---- places are swept

pub swept : {K X : Type 0} {R : K → K → Ordering} (total : IsTotalOrder R) (es fs : List (K × Place X)) → ((q : K) → lookup (is_at (R q)) fs ≡ if_visible (lookup (is_at (R q)) es)) → (q : K) → get (from_entries {R = R} fs) q ≡ if_visible (get (from_entries {R = R} es) q)
swept total es fs is q = seen total fs q ∙ is q ∙ ap (λ o. if_visible o) (sym (seen total es q))

pub shown_same : {A : Type 0} (o : Option (Place A)) → visible (if_visible o) ≡ visible o
shown_same o = grind arith

pub none_left : {A : Type 0} (o : Option (Place A)) → has_left (if_visible o) ≡ false
none_left o = grind arith

only_shown : {A : Type 0} (o : Option (Place A)) → is_some (if_visible o) ≡ is_some (visible (if_visible o))
only_shown o = grind arith

-- only places with an entry are left
pub record AreShown (a b : Stored) : Type 0 where
  pub terms : (t : List ℕ) → finite.get b.terms t ≡ if_visible (finite.get a.terms t)
  pub contexts : (n : CtxNum) → finite.get b.contexts n.0 ≡ if_visible (finite.get a.contexts n.0)

pub swept_maps : (a b : Stored) → AreShown a b → maps_of b ≡ maps_of a
swept_maps a b s = shown_alike b a (λ t. ap (λ o. visible o) (s.terms t) ∙ shown_same (finite.get a.terms t)) (λ n. ap (λ o. visible o) (s.contexts n) ∙ shown_same (finite.get a.contexts n.0))

pub swept_in : (a b : Stored) → AreShown a b → NoneIsOut b
swept_in a b s (Term t) = ap (λ o. has_left o) (s.terms t) ∙ none_left (finite.get a.terms t)
swept_in a b s (Ctx n) = ap (λ o. has_left o) (s.contexts n) ∙ none_left (finite.get a.contexts n.0)
swept_in a b s Whole = refl

pub swept_ready : (a b : Stored) → AreShown a b → AreSwept b
swept_ready a b s (Term t) = ap (λ o. is_some o) (s.terms t) ∙ only_shown (finite.get a.terms t) ∙ ap (λ o. is_some (visible o)) (sym (s.terms t)) ∙ ap (λ o. is_some o) (sym (term-maps_of b t))
swept_ready a b s (Ctx n) = ap (λ o. is_some o) (s.contexts n) ∙ only_shown (finite.get a.contexts n.0) ∙ ap (λ o. is_some (visible o)) (sym (s.contexts n)) ∙ ap (λ o. is_some o) (sym (ctx-maps_of b n))
swept_ready a b s Whole = refl

-- ---- keys in order

swapped : (a b : Key) → a ≡ b → same_key a b ≡ same_key b a
swapped a b e = ap (λ k. same_key k b) e ∙ ap (λ k. same_key b k) (sym e)

all_at : {K : Type 0} (P : K → Type 0) (xs : List K) (i : ℕ) (d : K) → i < length xs → AllByRecursion P xs → P (get_or xs i d)
all_at P xs i d h a = grind (arith, common_steps)

pub not_before : (keys : List Key) (i : ℕ) (d : Key) → i < length keys → IsInOrder keys → has (take i keys) (get_or keys i d) ≡ false
unfolding IsStrictlySortedBy
not_before [] i d h s = absurd (omega arith)
not_before (x ∷ xs) zero d h s = refl
not_before (x ∷ xs) (suc i) d h s = both (same_key (get_or xs i d) x) (has (take i xs) (get_or xs i d)) (refuted (same_key (get_or xs i d) x) apart) (not_before xs i d (omega arith) s.1)
  where
    both : (a b : Bool) → a ≡ false → b ≡ false → (a || b) ≡ false
    both true b e f = e
    both false b e f = f

    apart : same_key (get_or xs i d) x ≡ true → ⊥
    apart e =
        let less : key_cmp x (get_or xs i d) ≡ Less = all_at (λ y. key_cmp x y ≡ Less) xs i d (omega arith) s.0 in
        let off : same_key x (get_or xs i d) ≡ false = sym (key_test x (get_or xs i d)) ∙ ap (λ r. is_eq r) less in
        let one : get_or xs i d ≡ x = same_key_is (get_or xs i d) x e in
        let clash : true ≡ false = sym e ∙ swapped (get_or xs i d) x one ∙ off in
        cc

pub front_has : (keys : List Key) (i : ℕ) (x : Key) → has (take i keys) x ≡ true → has keys x ≡ true
front_has keys zero x h = absurd cc
front_has [] (suc i) x h = absurd cc
front_has (y ∷ ys) (suc i) x h = either (or_cases (same_key x y) (has (take i ys) x) h) (λ a. or_left (same_key x y) (has ys x) a) (λ b. or_right (same_key x y) (has ys x) (front_has ys i x b))

pub has_at : (keys : List Key) (i : ℕ) (d : Key) → i < length keys → has keys (get_or keys i d) ≡ true
has_at [] i d h = absurd (omega arith)
has_at (x ∷ xs) zero d h = has-head x xs
has_at (x ∷ xs) (suc i) d h = has-tail x (get_or xs i d) xs (has_at xs i d (omega arith))

-- a key where it stands among them
module _ (keys : List Key) (i : ℕ) (k : Key) (found : IsFound keys k (Some i)) where
  pub held : has keys k ≡ true
  held = ap (λ x. has keys x) (sym found.1) ∙ has_at keys i k found.0

  pub first : IsInOrder keys → has (take i keys) k ≡ false
  first order = ap (λ x. has (take i keys) x) (sym found.1) ∙ not_before keys i k found.0 order

-- the keys before it were moved, and then it is moved too
module _ (keys : List Key) (i : ℕ) (k : Key) (from to left full : Stored) (found : IsFound keys k (Some i)) (m : AreMoved (take i keys) from to left full) (r : AreReady keys from) where
  pub ready_next : is_ready left k ≡ true
  ready_next = ready_left (take i keys) from to left full m (λ x h. r x (front_has keys i x h)) k ∙ r k (held keys i k found)

  pub moved_next : (after behind : Stored) → IsInOrder keys → after ≡ with_out left k → behind ≡ with_cell k (cell_from left k) full → AreMoved (take (i + 1) keys) from to after behind
  moved_next after behind order e f =
      subst (λ l. AreMoved l from to after behind) (sym (take_more keys i k found.0 ∙ ap (λ x. take i keys ++ x ∷ []) found.1))
      (moved_more (take i keys) k from to left full after behind (first keys i k found order) ready_next e f m)
