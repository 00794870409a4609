-- An ordered map of the program, and the finite map that it is seen as. Generic in the order of the keys, which is total and
-- in which only equal keys tie.
use Rattle.std.proofs.Common.{◌≡◌, Bool, true, false, T, ◌&&◌, cond, List, [], ◌∷◌, Option, None, Some, refl, sym, ap, subst, ◌∙◌, Ordering}
use Rattle.std.specs.Cmp.{IsTotalOrder, eq_by_cmp_equiv}
use Rattle.std.specs.Map.{lookup}
use Rattle.std.specs.BTreeMap.{is_at}
use Rattle.std.specs.FinMap.{FinMap, entries, from_sorted, is_sorted, get-from_sorted, entries-from_sorted, get, find, insert, remove, from_entries, get-from_entries, get-insert, get-remove, same_map, IsAntisymmetric}
use Rattle.std.specs.FinMap.Entries.{below_all}
use Rattle.std.specs.List.Sorted.{IsStrictlySortedBy}
use Rattle.std.specs.List.{AllByRecursion}
use Rattle.std.specs.Map.{keys_of}
use Rattle.std.specs.Ordering.{is_lt}
use Rattle.std.specs.declared.cmp.Ordering.TheVariants.{Less}

module _ {K X : Type 0} {R : K → K → Ordering} (total : IsTotalOrder R) where
  find_lookup : (es : List (K × X)) (q : K) → find R q es ≡ lookup (is_at (R q)) es
  find_lookup [] q = refl
  find_lookup (e ∷ es) q = ap (cond (is_at (R q) e.0) (Some e.1)) (find_lookup es q)

  -- what the finite map has at a key
  pub seen : (es : List (K × X)) (q : K) → get (from_entries {R = R} es) q ≡ lookup (is_at (R q)) es
  seen es q = get-from_entries total es q ∙ find_lookup es q

  -- entries that differ at one key make maps that differ there
  pub seen_insert : IsAntisymmetric R → (es fs : List (K × X)) (k : K) (v : X) → ((q : K) → lookup (is_at (R q)) fs ≡ cond (is_at (R k) q) (Some v) (lookup (is_at (R q)) es)) → from_entries {R = R} fs ≡ insert (from_entries es) k v
  seen_insert same es fs k v h = same_map total same _ _ (λ q.
      seen fs q ∙ h q ∙ ap (λ b. cond b (Some v) (lookup (is_at (R q)) es)) ((eq_by_cmp_equiv total).symm k q)
      ∙ sym (get-insert total (from_entries es) k v q ∙ ap (cond (is_at (R q) k) (Some v)) (seen es q)))

  pub seen_remove : IsAntisymmetric R → (es fs : List (K × X)) (k : K) → ((q : K) → lookup (is_at (R q)) fs ≡ cond (is_at (R k) q) None (lookup (is_at (R q)) es)) → from_entries {R = R} fs ≡ remove (from_entries es) k
  seen_remove same es fs k h =
      let none : Option X = None in
      same_map total same _ _ (λ q.
      seen fs q ∙ h q ∙ ap (λ b. cond b none (lookup (is_at (R q)) es)) ((eq_by_cmp_equiv total).symm k q)
      ∙ sym (get-remove total (from_entries es) k q ∙ ap (cond (is_at (R q) k) none) (seen es q)))

both_hold : (a b : Bool) → T a → T b → T (a && b)
both_hold true b p q = q
both_hold false b p q = p

module _ {K X : Type 0} {R : K → K → Ordering} (total : IsTotalOrder R) where
  below : (x : K) (es : List (K × X)) → AllByRecursion (λ y. R x y ≡ Less) (keys_of es) → T (below_all R x es)
  below x [] h = tt
  below x (e ∷ es) h = both_hold (is_lt (R x e.0)) (below_all R x es) (subst (λ (o : Ordering). T (is_lt o)) (sym h.0) tt) (below x es h.1)

  sorted : (es : List (K × X)) → IsStrictlySortedBy R (keys_of es) → T (is_sorted R es)
  unfolding IsStrictlySortedBy
  sorted [] h = tt
  sorted (e ∷ es) h = both_hold (below_all R e.0 es) (is_sorted R es) (below e.0 es h.0) (sorted es h.1)

  -- the entries of an ordered map are those of the finite map that it is seen as
  pub entries_seen : IsAntisymmetric R → (es : List (K × X)) → IsStrictlySortedBy R (keys_of es) → entries (from_entries {R = R} es) ≡ es
  entries_seen same es h =
      let in_order = sorted es h in
      let one : from_entries {R = R} es ≡ from_sorted es = same_map total same _ _ (λ q. get-from_entries total es q ∙ sym (get-from_sorted R es q in_order)) in
      ap (λ (m : FinMap R X). entries m) one ∙ entries-from_sorted R es in_order
