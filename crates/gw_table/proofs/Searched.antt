-- What a search among keys in order finds.
use Rattle.std.proofs.lemmas.Grind.{common_steps}
use Rattle.std.proofs.Common.{◌≡◌, ℕ, suc, zero, ◌+◌, ◌<◌, ◌≤◌, Bool, true, false, List, [], ◌∷◌, length, get_or, Result, Ok, Err, refl, sym, ap, subst, ◌∙◌, arith}
use Rattle.std.specs.Prelude.{◌||◌}
use Rattle.std.specs.List.{AllByRecursion}
use Rattle.std.specs.List.Sorted.{IsSearchInRange, IsBinarySearchResult, IsStrictlySortedBy}
use Rattle.std.specs.Ordering.{is_eq, is_lt, ordering_reverse}
use Rattle.std.specs.Result.{result_ok}
use Rattle.std.specs.declared.cmp.Ordering.{Ordering}
use Rattle.std.specs.declared.cmp.Ordering.TheVariants.{Less}
use Rattle.std.proofs.lemmas.List.Sorted.{searchable_from_sorted}
use Rattle.gw_base.specs.declared.key.Key.{Key}
use Rattle.gw_base.specs.Keys.{same_key, has}
use Rattle.gw_table.specs.Cells.{IsFound}
use Rattle.gw_table.specs.KeyLists.{key_cmp, IsInOrder}
use Rattle.gw_table.proofs.KeyOrder.{key_total, key_test, keys_tie}

all_at : {K : Type 0} (P : K → Type 0) (xs : List K) (i : ℕ) (d : K) → i < length xs → AllByRecursion P xs → P (get_or xs i d)
all_at P xs i d h a = grind (arith, common_steps)

not_less : (r s : Ordering) → r ≡ ordering_reverse s → s ≡ Less → is_lt r ≡ false
not_less r s e h = ap is_lt (e ∙ ap ordering_reverse h)

next : (j : ℕ) → suc j ≡ j + 1
next j = omega arith

-- no key comes before the one before it
rises : (keys : List Key) → IsInOrder keys → (k : ℕ) (d : Key) → suc k < length keys → is_lt (key_cmp (get_or keys (suc k) d) (get_or keys k d)) ≡ false
unfolding IsStrictlySortedBy
rises [] s k d h = absurd (omega arith)
rises (x ∷ xs) s zero d h = not_less (key_cmp (get_or xs zero d) x) (key_cmp x (get_or xs zero d)) (key_total.antisymm (get_or xs zero d) x) (all_at (λ y. key_cmp x y ≡ Less) xs zero d (omega arith) s.0)
rises (x ∷ xs) s (suc k) d h = rises xs s.1 k d (omega arith)

-- a key that ties with none is not there
none_ties : (keys : List Key) (k : Key) → ((i : ℕ) (d : Key) → i < length keys → is_eq (key_cmp k (get_or keys i d)) ≡ false) → has keys k ≡ false
none_ties [] k h = refl
none_ties (x ∷ xs) k h = both (same_key k x) (has xs k) (sym (key_test k x) ∙ h zero x (omega arith)) (none_ties xs k (λ i d l. h (suc i) d (omega arith)))
  where
    both : (a b : Bool) → a ≡ false → b ≡ false → (a || b) ≡ false
    both true b e f = e
    both false b e f = f

turned : (r s : Ordering) → r ≡ ordering_reverse s → is_eq s ≡ false → is_eq r ≡ false
turned r s e h = grind arith

below_or_not : (i j : ℕ) (P : Type 0) → (i < j → P) → (j ≤ i → P) → P
below_or_not zero zero P f g = g (omega arith)
below_or_not zero (suc j) P f g = f (omega arith)
below_or_not (suc i) zero P f g = g (omega arith)
below_or_not (suc i) (suc j) P f g = below_or_not i j P (λ h. f (omega arith)) (λ h. g (omega arith))

pub searched : (keys : List Key) (k : Key) (r : Result ℕ ℕ) → IsInOrder keys → IsSearchInRange r (length keys) → IsBinarySearchResult (λ y. key_cmp y k) keys r → IsFound keys k (result_ok r)
searched keys k (Ok i) s range found = (range, keys_tie (get_or keys i k) k (found k))
searched keys k (Err i) s range parted =
    let split = parted (searchable_from_sorted key_total (λ y. y) keys k (λ j d a b. subst (λ n. is_lt (key_cmp (get_or keys n d) (get_or keys j d)) ≡ false) (next j) (rises keys s j d (omega arith)))) in
    none_ties keys k (λ j d l.
    let apart : is_eq (key_cmp (get_or keys j d) k) ≡ false = below_or_not j i (is_eq (key_cmp (get_or keys j d) k) ≡ false) (λ h. ap is_eq (split.0 j d (omega arith) h)) (λ h. ap is_eq (split.1 j d h l)) in
    turned (key_cmp k (get_or keys j d)) (key_cmp (get_or keys j d) k) (key_total.antisymm k (get_or keys j d)) apart)
