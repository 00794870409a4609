-- What stands in places, as a finite map: its look-ups, and its entries in order.
use Rattle.std.proofs.Common.{◌≡◌, Bool, true, false, cond, List, [], ◌∷◌, ◌++◌, map, Option, None, Some, is_some, append_assoc, refl, sym, ap, ◌∙◌}
use Rattle.std.specs.Cmp.{IsTotalOrder}
use Rattle.std.specs.Ordering.{eq_by_cmp, is_eq}
use Rattle.std.specs.declared.cmp.Ordering.{Ordering}
use Rattle.std.specs.declared.cmp.Ordering.TheVariants.{Less, Equal, Greater}
use Rattle.std.specs.FinMap.{FinMap, IsAntisymmetric, entries, get, find, insert, remove, from_entries, get-empty, get-entries, get-insert, get-remove, same_map}
use Rattle.std.specs.List.{AllByRecursion}
use Rattle.std.specs.List.Sorted.{IsStrictlySortedBy}
use Rattle.std.specs.Map.{keys_of}
use Rattle.gw_base.proofs.Views.{entries_seen}
use Rattle.gw_table.specs.declared.place.Place.{Place}
use Rattle.gw_table.specs.declared.place.Place.TheVariants.{Empty, Here, Out}
use Rattle.gw_table.specs.Stored.{visible, put_at, filled}

pub visible-cond : {A : Type 0} (b : Bool) (p : Place A) (o : Option (Place A)) → cond b (visible (Some p)) (visible o) ≡ visible (cond b (Some p) o)
visible-cond true p o = refl
visible-cond false p o = refl

-- the entry of a place, in a list
abbrev pub one_here : {K X : Type 0} → K → Option X → List (K × X)
one_here k None = []
one_here k (Some x) = (k, x) ∷ []

-- the entries that stand in places, in their order
abbrev pub here : {K X : Type 0} → List (K × Place X) → List (K × X)
here [] = []
here (e ∷ es) = one_here e.0 (visible (Some e.1)) ++ here es

not_eq : (r : Ordering) → r ≡ Less → is_eq r ≡ false
not_eq r e = ap is_eq e

tied : (r : Ordering) → is_eq r ≡ true → r ≡ Equal
tied Less h = cc
tied Equal h = refl
tied Greater h = cc

module _ {K X : Type 0} {R : K → K → Ordering} (total : IsTotalOrder R) where
  got-put_at : (m : FinMap R X) (k : K) (o : Option X) (q : K) → get (put_at m k o) q ≡ cond (eq_by_cmp R q k) o (get m q)
  got-put_at m k None q = get-remove total m k q
  got-put_at m k (Some x) q = get-insert total m k x q

  pub got_filled : (es : List (K × Place X)) (q : K) → get (filled {R = R} es) q ≡ visible (find R q es)
  got_filled [] q = get-empty R q
  got_filled (e ∷ es) q =
      got-put_at (filled es) e.0 (visible (Some e.1)) q ∙ ap (cond (eq_by_cmp R q e.0) (visible (Some e.1))) (got_filled es q)
      ∙ visible-cond (eq_by_cmp R q e.0) e.1 (find R q es)

  -- the entry at a key is what stands in its place
  pub got_shown : (m : FinMap R (Place X)) (q : K) → get (filled {R = R} (entries m)) q ≡ visible (get m q)
  got_shown m q = got_filled (entries m) q ∙ ap (λ o. visible o) (sym (get-entries m q))

  -- ---- the entries in order

  none_below : (k : K) (es : List (K × Place X)) → AllByRecursion (λ y. R k y ≡ Less) (keys_of es) → find R k es ≡ None
  none_below k [] h = refl
  none_below k (e ∷ es) h = ap (λ b. cond b (Some e.1) (find R k es)) (not_eq (R k e.0) h.0) ∙ none_below k es h.1

  none_taken : IsAntisymmetric R → (m : FinMap R X) (k : K) → get m k ≡ None → remove m k ≡ m
  none_taken same m k none = same_map total same (remove m k) m (λ q. get-remove total m k q ∙ at q (eq_by_cmp R q k) refl)
    where
      at : (q : K) (b : Bool) → eq_by_cmp R q k ≡ b → cond b None (get m q) ≡ get m q
      at q true e = sym none ∙ ap (get m) (sym (same q k (tied (R q k) e)))
      at q false e = refl

  filled_is : IsAntisymmetric R → (es : List (K × Place X)) → IsStrictlySortedBy R (keys_of es) → filled {R = R} es ≡ from_entries (here es)
  unfolding IsStrictlySortedBy
  filled_is same [] s = refl
  filled_is same (e ∷ es) s = by (visible (Some e.1)) (filled_is same es s.1)
    where
      by : (o : Option X) → filled {R = R} es ≡ from_entries (here es) → put_at (filled {R = R} es) e.0 o ≡ from_entries (one_here e.0 o ++ here es)
      by None rest = none_taken same (filled es) e.0 (got_filled es e.0 ∙ ap (λ o. visible o) (none_below e.0 es s.0)) ∙ rest
      by (Some x) rest = ap (λ (m : FinMap R X). insert m e.0 x) rest

all_here : {K X : Type 0} (P : K → Type 0) (es : List (K × Place X)) → AllByRecursion P (keys_of es) → AllByRecursion P (keys_of (here es))
all_here P [] h = h
all_here {K} {X} P (e ∷ es) h = by (visible (Some e.1)) (all_here P es h.1)
  where
    by : (o : Option X) → AllByRecursion P (keys_of (here es)) → AllByRecursion P (keys_of (one_here e.0 o ++ here es))
    by None rest = rest
    by (Some x) rest = (h.0, rest)

here_sorted : {K X : Type 0} (R : K → K → Ordering) (es : List (K × Place X)) → IsStrictlySortedBy R (keys_of es) → IsStrictlySortedBy R (keys_of (here es))
unfolding IsStrictlySortedBy
here_sorted R [] s = s
here_sorted {K} {X} R (e ∷ es) s = by (visible (Some e.1)) (here_sorted R es s.1) (all_here (λ y. R e.0 y ≡ Less) es s.0)
  where
    by : (o : Option X) → IsStrictlySortedBy R (keys_of (here es)) → AllByRecursion (λ y. R e.0 y ≡ Less) (keys_of (here es)) → IsStrictlySortedBy R (keys_of (one_here e.0 o ++ here es))
    by None rest first = rest
    by (Some x) rest first = (first, rest)

-- the entries of the map are those that stand in places
pub here_is : {K X : Type 0} {R : K → K → Ordering} → IsTotalOrder R → IsAntisymmetric R → (es : List (K × Place X)) → IsStrictlySortedBy R (keys_of es) → entries (filled {R = R} es) ≡ here es
here_is {K} {X} {R} total same es s = ap (λ (m : FinMap R X). entries m) (filled_is total same es s) ∙ entries_seen total same (here es) (here_sorted R es s)

-- their keys
abbrev pub keys_here : {K X : Type 0} → List (K × Place X) → List K
keys_here es = map (λ e. e.0) (here es)

-- one more that stands there
pub here_more : {K X : Type 0} (keys : List K) (k : K) (p : Place X) (es : List (K × Place X)) → is_some (visible (Some p)) ≡ true → (keys ++ k ∷ []) ++ keys_here es ≡ keys ++ keys_here ((k, p) ∷ es)
here_more keys k Empty es h = cc
here_more keys k (Here x) es h = append_assoc keys (k ∷ []) (keys_here es)
here_more keys k Out es h = cc

pub numbered_more : {K X Y : Type 0} (f : K → Y) (ys : List Y) (k : K) (p : Place X) (es : List (K × Place X)) → is_some (visible (Some p)) ≡ true → (ys ++ f k ∷ []) ++ map f (keys_here es) ≡ ys ++ map f (keys_here ((k, p) ∷ es))
numbered_more f ys k Empty es h = cc
numbered_more f ys k (Here x) es h = append_assoc ys (f k ∷ []) (map f (keys_here es))
numbered_more f ys k Out es h = cc

-- one that does not
pub not_here : {K X : Type 0} (k : K) (p : Place X) (es : List (K × Place X)) → is_some (visible (Some p)) ≡ false → keys_here es ≡ keys_here ((k, p) ∷ es)
not_here k Empty es h = refl
not_here k (Here x) es h = cc
not_here k Out es h = refl
