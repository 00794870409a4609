-- That a list in order of the keys of a map is its list of keys; and keys of one kind, picked out of keys in order.
use Rattle.std.proofs.Common.{◌≡◌, ℕ, ◌+◌, ◌<◌, ◌≤◌, length, get_or, drop, Bool, true, false, cond, List, [], ◌∷◌, ◌++◌, map, Option, None, Some, is_some, refl, sym, ap, subst, ◌∙◌}
use Rattle.std.proofs.lemmas.List.{drop_more, drop_all}
use Rattle.std.specs.Prelude.{◌||◌, ◌&&◌}
use Rattle.std.specs.Cmp.{IsTotalOrder, tied_itself, nat_cmp_total}
use Rattle.std.specs.Cmp.Lexicographic.{nat_list_cmp_total}
use Rattle.std.specs.FinMap.{FinMap, IsAntisymmetric, get, find, keys, get_tied, same_map, nat_cmp-IsAntisymmetric}
use Rattle.std.specs.List.{AllByRecursion, list_any}
use Rattle.std.specs.List.Sorted.{IsStrictlySortedBy}
use Rattle.std.specs.Map.{keys_of}
use Rattle.std.specs.Ordering.{nat_cmp, eq_by_cmp, is_eq}
use Rattle.std.specs.declared.cmp.Ordering.{Ordering}
use Rattle.std.specs.declared.cmp.Ordering.TheVariants.{Less, Equal, Greater}
use Rattle.gw_base.specs.declared.key.Key.{Key}
use Rattle.gw_base.specs.declared.key.Key.TheVariants.{Term, Ctx, Whole}
use Rattle.gw_base.specs.Keys.{same_key, has}
use Rattle.gw_base.specs.NameLists.{name_cmp}
use Rattle.gw_base.proofs.NameTests.{name_test, number_test, names_same}
use Rattle.gw_base.proofs.NamesInLists.{or_left, or_right}
use Rattle.gw_table.specs.declared.place.Place.{Place}
use Rattle.gw_table.specs.KeyLists.{key_cmp, IsInOrder}
use Rattle.gw_table.specs.Maps.{Maps, number, term, ctx, names, numbers}
use Rattle.gw_table.specs.Parts.{Only, IsPart}
use Rattle.gw_table.specs.Stored.{visible, placed, filled}
use Rattle.gw_table.proofs.Shown.{here, one_here, keys_here, here_is, got_filled}

tied : (r : Ordering) → is_eq r ≡ true → r ≡ Equal
tied Less h = absurd cc
tied Equal h = refl
tied Greater h = absurd cc

module _ {K X : Type 0} {R : K → K → Ordering} (total : IsTotalOrder R) (exact : IsAntisymmetric R) (f : FinMap R X) where
  -- the list as places, with what the map has at each
  abbrev places : List K → List (K × Place X)
  places l = map (λ k. (k, placed (get f k))) l

  keys_of_places : (l : List K) → keys_of (places l) ≡ l
  keys_of_places [] = refl
  keys_of_places (k ∷ l) = ap (λ x. k ∷ x) (keys_of_places l)

  found_place : (l : List K) (q : K) → find R q (places l) ≡ cond (list_any (eq_by_cmp R q) l) (Some (placed (get f q))) None
  found_place [] q = refl
  found_place (k ∷ l) q = ap (cond (eq_by_cmp R q k) (Some (placed (get f k)))) (found_place l q) ∙ by (eq_by_cmp R q k) (list_any (eq_by_cmp R q) l) refl
    where
      by : (b c : Bool) → eq_by_cmp R q k ≡ b → cond b (Some (placed (get f k))) (cond c (Some (placed (get f q))) None) ≡ cond (b || c) (Some (placed (get f q))) None
      by true c e = ap (λ (o : Option X). Some (placed o)) (get_tied total f q k (tied (R q k) e))
      by false c e = refl

  if_there : (o : Option X) → visible (cond (is_some o) (Some (placed o)) None) ≡ o
  if_there None = refl
  if_there (Some x) = refl

  one_key : (k : K) (o : Option X) (es : List (K × X)) → is_some o ≡ true → map (λ e. e.0) (one_here k (visible (Some (placed o))) ++ es) ≡ k ∷ map (λ e. e.0) es
  one_key k None es h = absurd cc
  one_key k (Some x) es h = refl

  all_there : (l : List K) → ((q : K) → list_any (eq_by_cmp R q) l ≡ true → is_some (get f q) ≡ true) → keys_here (places l) ≡ l
  all_there [] h = refl
  all_there (k ∷ l) h =
      one_key k (get f k) (here (places l)) (h k (or_left (eq_by_cmp R k k) (list_any (eq_by_cmp R k) l) (ap is_eq (tied_itself total k))))
      ∙ ap (λ x. k ∷ x) (all_there l (λ q e. h q (or_right (eq_by_cmp R q k) (list_any (eq_by_cmp R q) l) e)))

  -- a list in order with the keys of a map, and no other, is its list of keys
  pub keys_are : (l : List K) → IsStrictlySortedBy R l → ((q : K) → list_any (eq_by_cmp R q) l ≡ is_some (get f q)) → keys f ≡ l
  keys_are l s has =
      let same : filled {R = R} (places l) ≡ f =
      same_map total exact (filled (places l)) f (λ q. got_filled total (places l) q ∙ ap (λ o. visible o) (found_place l q ∙ ap (λ b. cond b (Some (placed (get f q))) None) (has q)) ∙ if_there (get f q)) in
      ap (λ (m : FinMap R X). keys m) (sym same) ∙ ap (λ (es : List (K × X)). map (λ e. e.0) es) (here_is total exact (places l) (subst (λ (x : List K). IsStrictlySortedBy R x) (sym (keys_of_places l)) s))
      ∙ all_there l (λ q e. sym (has q) ∙ e)

-- ---- keys of one kind that pass a test

abbrev pub put_if : {K : Type 0} → (K → Bool) → Option K → List K → List K
put_if test None ks = ks
put_if test (Some k) ks = cond (test k) (k ∷ ks) ks

abbrev pub picked : {K : Type 0} → (Key → Option K) → (K → Bool) → List Key → List K
picked pick test [] = []
picked pick test (k ∷ keys) = put_if test (pick k) (picked pick test keys)

abbrev pub name_in : Key → Option (List ℕ)
name_in (Term t) = Some t
name_in (Ctx n) = None
name_in Whole = None

abbrev pub number_in : Key → Option ℕ
number_in (Term t) = None
number_in (Ctx n) = Some n.0
number_in Whole = None

module _ {K : Type 0} (R : K → K → Ordering) (pick : Key → Option K) (test : K → Bool) (rises : (a b : Key) (x y : K) → pick a ≡ Some x → pick b ≡ Some y → key_cmp a b ≡ Less → R x y ≡ Less) where
  above : (a : Key) (x : K) → pick a ≡ Some x → (keys : List Key) → AllByRecursion (λ k. key_cmp a k ≡ Less) keys → AllByRecursion (λ y. R x y ≡ Less) (picked pick test keys)
  above a x e [] h = tt
  above a x e (k ∷ keys) h = by (pick k) refl (above a x e keys h.1)
    where
      by : (o : Option K) → pick k ≡ o → AllByRecursion (λ y. R x y ≡ Less) (picked pick test keys) → AllByRecursion (λ y. R x y ≡ Less) (put_if test o (picked pick test keys))
      by None f rest = rest
      by (Some y) f rest = at (test y)
        where
          at : (b : Bool) → AllByRecursion (λ z. R x z ≡ Less) (cond b (y ∷ picked pick test keys) (picked pick test keys))
          at true = (rises a k x y e f h.0, rest)
          at false = rest

  picked_in_order : (keys : List Key) → IsInOrder keys → IsStrictlySortedBy R (picked pick test keys)
  unfolding IsStrictlySortedBy
  picked_in_order [] s = tt
  picked_in_order (k ∷ keys) s = by (pick k) refl (picked_in_order keys s.1)
    where
      by : (o : Option K) → pick k ≡ o → IsStrictlySortedBy R (picked pick test keys) → IsStrictlySortedBy R (put_if test o (picked pick test keys))
      by None f rest = rest
      by (Some y) f rest = at (test y)
        where
          at : (b : Bool) → IsStrictlySortedBy R (cond b (y ∷ picked pick test keys) (picked pick test keys))
          at true = (above k y f keys s.0, rest)
          at false = rest

-- the test of a key that is of the kind
abbrev pub if_in : {K : Type 0} → (K → Bool) → Option K → Bool
if_in test None = false
if_in test (Some k) = test k

module _ {K X : Type 0} {R : K → K → Ordering} (total : IsTotalOrder R) (exact : IsAntisymmetric R) (f : FinMap R X) (pick : Key → Option K) (of : K → Key)
    (rises : (a b : Key) (x y : K) → pick a ≡ Some x → pick b ≡ Some y → key_cmp a b ≡ Less → R x y ≡ Less)
    (same : (q : K) (k : Key) → if_in (eq_by_cmp R q) (pick k) ≡ same_key (of q) k) where
  abbrev there : K → Bool
  there q = is_some (get f q)

  found : (q : K) (keys : List Key) → list_any (eq_by_cmp R q) (picked pick there keys) ≡ (has keys (of q) && there q)
  found q [] = refl
  found q (k ∷ keys) = by (pick k) (same q k) (found q keys)
    where
      -- it is the key itself that is asked for, or another
      one : (b h : Bool) (y : K) (rest : List K) → eq_by_cmp R q y ≡ b → list_any (eq_by_cmp R q) rest ≡ (h && there q) → list_any (eq_by_cmp R q) (cond (there y) (y ∷ rest) rest) ≡ ((b || h) && there q)
      one true h y rest e g = ap (λ x. list_any (eq_by_cmp R q) (cond (there x) (y ∷ rest) rest)) (sym is) ∙ at (there q) refl
        where
          is : q ≡ y
          is = exact q y (tied (R q y) e)

          at : (b : Bool) → there q ≡ b → list_any (eq_by_cmp R q) (cond b (y ∷ rest) rest) ≡ b
          at true u = ap (λ x. x || list_any (eq_by_cmp R q) rest) e
          at false u = g ∙ ap (λ x. h && x) u ∙ off h
            where
              off : (h : Bool) → (h && false) ≡ false
              off true = refl
              off false = refl
      one false h y rest e g = at (there y)
        where
          at : (b : Bool) → list_any (eq_by_cmp R q) (cond b (y ∷ rest) rest) ≡ (h && there q)
          at true = ap (λ x. x || list_any (eq_by_cmp R q) rest) e ∙ g
          at false = g

      by : (o : Option K) → if_in (eq_by_cmp R q) o ≡ same_key (of q) k → list_any (eq_by_cmp R q) (picked pick there keys) ≡ (has keys (of q) && there q)
          → list_any (eq_by_cmp R q) (put_if there o (picked pick there keys)) ≡ ((same_key (of q) k || has keys (of q)) && there q)
      by None e g = g ∙ ap (λ b. (b || has keys (of q)) && there q) e
      by (Some y) e g = one (same_key (of q) k) (has keys (of q)) y (picked pick there keys) e g

  pub picked_are : (l : List Key) → IsInOrder l → ((q : K) → there q ≡ true → has l (of q) ≡ true) → picked pick there l ≡ keys f
  picked_are l s within = sym (keys_are total exact f (picked pick there l) (picked_in_order R pick there rises l s) (λ q. found q l ∙ at q (there q) refl))
    where
      at : (q : K) (b : Bool) → there q ≡ b → (has l (of q) && there q) ≡ there q
      at q true e = ap (λ x. x && there q) (within q e)
      at q false e = ap (λ x. has l (of q) && x) e ∙ off (has l (of q)) ∙ sym e
        where
          off : (h : Bool) → (h && false) ≡ false
          off true = refl
          off false = refl

-- ---- both kinds

names_rise : (a b : Key) (x y : List ℕ) → name_in a ≡ Some x → name_in b ≡ Some y → key_cmp a b ≡ Less → name_cmp x y ≡ Less
names_rise (Term t) (Term q) x y e f h = (λ i. name_cmp (sym (of_some t x e) i) (sym (of_some q y f) i)) ∙ h
  where
    of_some : {A : Type 0} (a b : A) → Some a ≡ Some b → a ≡ b
    of_some a b e = cc
names_rise (Term t) (Ctx n) x y e f h = absurd cc
names_rise (Term t) Whole x y e f h = absurd cc
names_rise (Ctx n) b x y e f h = absurd cc
names_rise Whole b x y e f h = absurd cc

numbers_rise : (a b : Key) (x y : ℕ) → number_in a ≡ Some x → number_in b ≡ Some y → key_cmp a b ≡ Less → nat_cmp x y ≡ Less
numbers_rise (Ctx n) (Ctx q) x y e f h = (λ i. nat_cmp (sym (of_some n.0 x e) i) (sym (of_some q.0 y f) i)) ∙ h
  where
    of_some : (a b : ℕ) → Some a ≡ Some b → a ≡ b
    of_some a b e = cc
numbers_rise (Ctx n) (Term t) x y e f h = absurd cc
numbers_rise (Ctx n) Whole x y e f h = absurd cc
numbers_rise (Term t) b x y e f h = absurd cc
numbers_rise Whole b x y e f h = absurd cc

same_name_in : (q : List ℕ) (k : Key) → if_in (eq_by_cmp name_cmp q) (name_in k) ≡ same_key (Term q) k
same_name_in q (Term t) = name_test q t
same_name_in q (Ctx n) = refl
same_name_in q Whole = refl

same_number_in : (q : ℕ) (k : Key) → if_in (eq_by_cmp nat_cmp q) (number_in k) ≡ same_key (Ctx (number q)) k
same_number_in q (Term t) = refl
same_number_in q (Ctx n) = number_test q n.0
same_number_in q Whole = refl

abbrev pub has_name : Maps → List ℕ → Bool
has_name m t = is_some (term m t)

abbrev pub has_number : Maps → ℕ → Bool
has_number m n = is_some (ctx m (number n))

pub names_picked : (l : List Key) (m : Maps) → IsInOrder l → IsPart (Only l) m → picked name_in (has_name m) l ≡ names m
names_picked l m s p = picked_are nat_list_cmp_total names_same m.terms name_in (λ t. Term t) names_rise same_name_in l s p.terms

pub numbers_picked : (l : List Key) (m : Maps) → IsInOrder l → IsPart (Only l) m → map number (picked number_in (has_number m) l) ≡ numbers m
numbers_picked l m s p = ap (λ (x : List ℕ). map number x) (picked_are nat_cmp_total nat_cmp-IsAntisymmetric m.contexts number_in (λ n. Ctx (number n)) numbers_rise same_number_in l s (λ q h. p.contexts (number q) h))

-- ---- one more key

pub picked_more : {K : Type 0} (pick : Key → Option K) (test : K → Bool) (l : List Key) (i : ℕ) (k : Key) → i < length l → k ≡ get_or l i k → put_if test (pick k) (picked pick test (drop (i + 1) l)) ≡ picked pick test (drop i l)
picked_more pick test l i k h is = ap (λ x. put_if test (pick x) (picked pick test (drop (i + 1) l))) is ∙ ap (λ (x : List Key). picked pick test x) (sym (drop_more l i k h))

pub picked_all : {K : Type 0} (pick : Key → Option K) (test : K → Bool) (l : List Key) (i : ℕ) → length l ≤ i → picked pick test (drop i l) ≡ []
picked_all pick test l i h = ap (λ (x : List Key). picked pick test x) (drop_all i l h)

-- one that passes another test too
pub picked_first : {K : Type 0} (pick : Key → Option K) (test p : K → Bool) (l : List Key) (i : ℕ) (k : Key) (x : K) → i < length l → k ≡ get_or l i k → pick k ≡ Some x → true ≡ (test x && p x) → true ≡ list_any p (picked pick test (drop i l))
picked_first pick test p l i k x h is e t =
    by (test x) t ∙ ap (λ o. list_any p (put_if test o (picked pick test (drop (i + 1) l)))) (sym e) ∙ ap (list_any p) (picked_more pick test l i k h is)
  where
    by : (b : Bool) → true ≡ (b && p x) → true ≡ list_any p (cond b (x ∷ picked pick test (drop (i + 1) l)) (picked pick test (drop (i + 1) l)))
    by true t = ap (λ b. b || list_any p (picked pick test (drop (i + 1) l))) t
    by false t = absurd cc
