-- What putting keys in order leaves.
use Rattle.std.proofs.Common.{◌≡◌, ◌+◌, Bool, true, false, cond, List, [], ◌∷◌, length, get_or, refl, sym, ap, subst, ◌∙◌}
use Rattle.std.specs.Prelude.{◌||◌}
use Rattle.std.specs.List.{list_any, dedup, dedup_from, AllAdjacentBelow}
use Rattle.std.specs.List.Sorted.{IsPermutation, IsSorted}
use Rattle.std.proofs.lemmas.List.Kept.{IsStrictlySortedBy-dedup}
use Rattle.std.proofs.lemmas.List.Sorted.{list_any-IsPermutation}
use Rattle.std.proofs.lemmas.Map.Keys.{sorted_from_all_adjacent}
use Rattle.std.specs.Ordering.{is_lt}
use Rattle.std.specs.declared.cmp.Ordering.{Ordering}
use Rattle.std.specs.declared.cmp.Ordering.TheVariants.{Less, Equal, Greater}
use Rattle.gw_base.specs.declared.key.Key.{Key}
use Rattle.gw_base.specs.declared.key.Key.TheVariants.{Whole}
use Rattle.gw_base.specs.Keys.{same_key, has}
use Rattle.gw_table.specs.KeyLists.{key_cmp, IsInOrder, IsListOf}
use Rattle.gw_table.proofs.KeyOrder.{key_total, key_test, same_key_is}

-- ---- what sorting and dropping doubles leave

twice : (a b c : Bool) → a ≡ b → (b || c) ≡ (b || (a || c))
twice true true c e = refl
twice true false c e = cc
twice false true c e = refl
twice false false c e = refl

module _ (p : Key → Bool) (same : Key → Key → Bool) (is : (a b : Key) → same a b ≡ true → a ≡ b) where
  any_from : (y : Key) (xs : List Key) → list_any p (dedup_from same y xs) ≡ (p y || list_any p xs)
  any_from y [] = refl
  any_from y (x ∷ xs) = by (same x y) refl (any_from y xs) (any_from x xs)
    where
      by : (b : Bool) → same x y ≡ b → list_any p (dedup_from same y xs) ≡ (p y || list_any p xs) → list_any p (dedup_from same x xs) ≡ (p x || list_any p xs)
          → list_any p (cond b (dedup_from same y xs) (y ∷ dedup_from same x xs)) ≡ (p y || (p x || list_any p xs))
      by true e f g = f ∙ twice (p x) (p y) (list_any p xs) (ap p (is x y e))
      by false e f g = ap (λ b. p y || b) g

  any_once : (xs : List Key) → list_any p (dedup same xs) ≡ list_any p xs
  any_once [] = refl
  any_once (x ∷ xs) = any_from x xs

pub put_in_order : (same : Key → Key → Bool) → ((a b : Key) → same a b ≡ same_key a b) → (given sorted keys : List Key) → IsPermutation given sorted → IsSorted key_cmp sorted → keys ≡ dedup same sorted → IsListOf keys given
put_in_order same test given sorted keys moved up is =
    subst (λ l. IsListOf l given) (sym is) (record {
      order = IsStrictlySortedBy-dedup key_total (λ x y. test x y ∙ sym (key_test x y)) sorted up;
      same = λ k. any_once (same_key k) same (λ a b e. same_key_is a b (sym (test a b) ∙ e)) sorted ∙ sym (list_any-IsPermutation (same_key k) given sorted moved);
    })

-- ---- keys that are in order already, or only moved

less : (r : Ordering) → true ≡ is_lt r → r ≡ Less
less Less h = refl
less Equal h = cc
less Greater h = cc

pub in_order : (keys : List Key) → AllAdjacentBelow (λ x y. true ≡ is_lt (key_cmp x y)) keys (length keys) → IsInOrder keys
in_order keys h = sorted_from_all_adjacent key_total keys Whole (λ k l. less (key_cmp (get_or keys k Whole) (get_or keys (k + 1) Whole)) (h k Whole l))

pub list_of_same : (keys moved given : List Key) → ((k : Key) → has moved k ≡ has given k) → IsListOf keys moved → IsListOf keys given
list_of_same keys moved given same l = record { order = l.order; same = λ k. l.same k ∙ same k }

pub list_in_order : (keys given : List Key) → ((k : Key) → has keys k ≡ has given k) → IsInOrder keys → IsListOf keys given
list_in_order keys given same order = record { order = order; same = same }
