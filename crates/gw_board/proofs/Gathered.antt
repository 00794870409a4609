-- Stretches of places in chains: the keys of each chain, as they are collected, and that chains are apart.
use Rattle.std.proofs.Common.{◌≡◌, ◌≢◌, ℕ, zero, suc, ◌<◌, ◌-◌, Bool, true, false, cond, List, [], ◌∷◌, ◌++◌, length, take, Some, refl, sym, subst, ◌∙◌, arith, slice_index_or}
use Rattle.std.specs.Prelude.{slice_index, slice_set}
use Rattle.std.specs.Global.{Vec}
use Rattle.std.specs.List.{All, AllZip, ends_with}
use Rattle.std.proofs.lemmas.List.Elements.{All-nil, All-cons, All-head, All-tail}
use Rattle.std.proofs.lemmas.Slice.Eq.{ends_is}
use Rattle.std.proofs.lemmas.Slice.Zip.{AllZip-long}
use Rattle.gw_base.specs.declared.key.Key.{Key}
use Rattle.gw_base.specs.declared.key.Key.TheVariants.{Whole}
use Rattle.gw_base.specs.Keys.{has, same_key, Among, AreApart}
use Rattle.gw_base.proofs.KeyTests.{any-append_right, same-itself}
use Rattle.gw_base.proofs.NamesInLists.{or_cases, either}
use Rattle.gw_table.specs.KeyLists.{IsInOrder}
use Rattle.gw_table.specs.Maps.{Maps}
use Rattle.gw_table.proofs.KeyOrder.{same_key_is}
use Rattle.gw_board.specs.Chains.{IsInChain}
use Rattle.gw_board.specs.Core.{Place}
use Rattle.gw_board.specs.Fitting.{Each}
use Rattle.gw_board.specs.Stretches.{chain_named, chained, collected_at, keys_at, AreChained, AreGathered, AreOfTheirChains, HasItsKeys, IsListedAs}
use Rattle.gw_board.specs.Waves.{is_pending}
use Rattle.gw_board.specs.declared.chains.Owners.{Owners}

-- ---- keys are collected for a chain

pub collected_there : (lists : List (Vec Key)) (c : ℕ) (v : Vec Key) → c < length lists → collected_at (slice_set lists c v) c ≡ v.items
collected_there [] c v l = absurd (omega arith)
collected_there (x ∷ xs) zero v l = refl
collected_there (x ∷ xs) (suc c) v l = collected_there xs c v (omega arith)

pub collected_is : (lists : List (Vec Key)) (c : ℕ) (v : Vec Key) → c < length lists → (slice_index_or lists c v).items ≡ collected_at lists c
collected_is [] c v l = absurd (omega arith)
collected_is (x ∷ xs) zero v l = refl
collected_is (x ∷ xs) (suc c) v l = collected_is xs c v (omega arith)

pub collected_stays : (lists : List (Vec Key)) (c g : ℕ) (old v : Vec Key) → old ≡ slice_index_or lists c old → Among old.items v.items → Among (collected_at lists g) (collected_at (slice_set lists c v) g)
collected_stays [] c g old v e h = λ k j. j
collected_stays (x ∷ xs) zero zero old v e h = subst (λ (y : Vec Key). Among y.items v.items) e h
collected_stays (x ∷ xs) zero (suc g) old v e h = λ k j. j
collected_stays (x ∷ xs) (suc c) zero old v e h = λ k j. j
collected_stays (x ∷ xs) (suc c) (suc g) old v e h = collected_stays xs c g old v e h

-- a list that ends with keys, by a test that is theirs, has them
pub ends_among : (test : Key → Key → Bool) → ((a b : Key) → test a b ≡ same_key a b) → (list keys : List Key) (ends : Bool) → ends ≡ ends_with test list keys → ends ≡ true → Among keys list
ends_among test own list keys ends is so = λ k h.
    let split : list ≡ take (length list - length keys) list ++ keys =
    (ends_is (λ a b. (λ e. same_key_is a b (sym (own a b) ∙ e), λ e. own a b ∙ subst (λ (z : Key). same_key a z ≡ true) e (same-itself a))) list keys ends is).0 so in
    subst (λ (l : List Key). has l k ≡ true) (sym split) (any-append_right (same_key k) (take (length list - length keys) list) keys h)

-- ---- they are put in order

same_in : (lists : List (Vec Key)) (keys : List (List Key)) → AllZip IsListedAs lists keys → (g : ℕ) → Among (collected_at lists g) (keys_at keys g)
same_in [] [] h g = λ k j. j
same_in [] (y ∷ ys) h g = absurd h
same_in (x ∷ xs) [] h g = absurd h
same_in (x ∷ xs) (y ∷ ys) h zero = λ k j. h.0.same k ∙ j
same_in (x ∷ xs) (y ∷ ys) h (suc g) = same_in xs ys h.1 g

all_in_order : (lists : List (Vec Key)) (keys : List (List Key)) → AllZip IsListedAs lists keys → All IsInOrder keys
all_in_order [] [] h = All-nil IsInOrder
all_in_order [] (y ∷ ys) h = absurd h
all_in_order (x ∷ xs) [] h = absurd h
all_in_order (x ∷ xs) (y ∷ ys) h = All-cons IsInOrder y ys h.0.order (all_in_order xs ys h.1)

-- ---- chains are apart

all_has : (P : Key → Type 0) (keys : List Key) → All P keys → (k : Key) → has keys k ≡ true → P k
all_has P [] a k h = absurd cc
all_has P (x ∷ xs) a k h =
    either (or_cases (same_key k x) (has xs k) h)
    (λ e. subst P (sym (same_key_is k x e)) (All-head P x xs a))
    (λ j. all_has P xs (All-tail P x xs a) k j)

not_true : (b : Bool) → (b ≡ true → ⊥) → b ≡ false
not_true true f = absurd (f refl)
not_true false f = refl

module _ (o : Owners) (keys : List (List Key)) (a : AreOfTheirChains o keys) where
  alone : (g : ℕ) (k : Key) → has (keys_at keys g) k ≡ true → chain_named o k ≡ Some g
  alone g k h = all_has (λ q. chain_named o q ≡ Some g) (keys_at keys g) (a g) k h

  none_whole : (g : ℕ) → has (keys_at keys g) Whole ≡ false
  none_whole g = not_true (has (keys_at keys g) Whole) (λ h. let e = alone g Whole h in cc)

  apart : (g h : ℕ) → g ≢ h → AreApart (keys_at keys g) (keys_at keys h)
  apart g h ne = record {
    keys = λ k i. not_true (has (keys_at keys h) k) (λ j. let e = sym (alone g k i) ∙ alone h k j in let same : g ≡ h = cc in ne same);
    whole_a = none_whole g;
    whole_b = none_whole h;
  }

-- ---- a stretch

module _ (lists : ℕ → List Key) (m : Maps) where
  within : (numbers : List ℕ) (places : List Place) (footprints : List (List Key)) → AllZip (HasItsKeys m) places footprints
      → ((i : ℕ) → i < length footprints → Among (keys_at footprints i) (lists (slice_index numbers i))) → Each (IsInChain lists m) (chained numbers places)
  within [] places footprints z h = tt
  within (g ∷ gs) [] footprints z h = tt
  within (g ∷ gs) (p ∷ ps) [] z h = absurd z
  within (g ∷ gs) (p ∷ ps) (f ∷ fs) z h = by (is_pending p.standing) refl (within gs ps fs z.1 (λ i l. h (suc i) (omega arith)))
    where
      by : (b : Bool) → is_pending p.standing ≡ b → Each (IsInChain lists m) (chained gs ps) → Each (IsInChain lists m) (cond b (record { chain = g; requested = p.requested } ∷ chained gs ps) (chained gs ps))
      by true e more = (λ k j. h zero (omega arith) k (z.0 e k ∙ j), more)
      by false e more = more

pub are_chained : (o : Owners) (numbers : List ℕ) (lists : List (Vec Key)) (keys : List (List Key)) (m : Maps) (places : List Place) (footprints : List (List Key)) → length numbers ≡ length footprints
    → All (λ g. g < length lists) numbers → AllZip (HasItsKeys m) places footprints → AreGathered lists numbers footprints → AllZip IsListedAs lists keys → AreOfTheirChains o keys → AreChained numbers keys m places
are_chained o numbers lists keys m places footprints count inside own gathered listed a = record {
  as_many = count ∙ AllZip-long (HasItsKeys m) places footprints own;
  numbered = subst (λ n. All (λ g. g < n) numbers) (sym (AllZip-long IsListedAs lists keys listed)) inside;
  ordered = all_in_order lists keys listed;
  chains = record {
    within = within (keys_at keys) m numbers places footprints own (λ i l k j. same_in lists keys listed (slice_index numbers i) k (gathered i l k j));
    apart = apart o keys a;
    none_whole = none_whole o keys a;
  };
}
