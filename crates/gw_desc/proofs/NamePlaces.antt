-- What the search among neighbours knows of places that stand in the order of their names.
use Rattle.std.proofs.Common.{◌≡◌, ◌≢◌, ℕ, ◌+◌, ◌<◌, false, List, [], length, get_or, sym, ◌∙◌, ap, arith, Less, Equal, inl, inr, true≢false}
use Rattle.std.specs.declared.cmp.Ordering.{Ordering}
use Rattle.std.specs.Ordering.{is_lt, is_eq, eq_by_cmp, nat_cmp, ordering_reverse}
use Rattle.std.specs.Cmp.{IsTotalOrder}
use Rattle.std.specs.Cmp.Lexicographic.{slice_cmp, on_texts}
use Rattle.std.specs.List.{IsDistinct}
use Rattle.std.specs.List.Sorted.{IsPermutation, IsSortedBy}
use Rattle.std.proofs.Math.Dec.{eqb}
use Rattle.std.proofs.lemmas.Bool.{eqb-false, ne_eqb}
use Rattle.std.proofs.lemmas.Cmp.{tied_itself, eq_by_cmp_equiv, nat_eq_equiv}
use Rattle.std.proofs.lemmas.Grind.{get_or_default_zero}
use Rattle.std.proofs.lemmas.List.Sorted.{All-permutation, IsPermutation-sym}
use Rattle.std.proofs.lemmas.Map.Keys.{IsDistinct-IsPermutation, IsDistinct-from_apart, IsDistinct-from_sorted, apart_from_distinct, sorted_from_all_adjacent}
use Rattle.std.proofs.lemmas.Map.Lookups.{exact_bytes}
use Rattle.std.proofs.lemmas.Bool.Decides.{leb_tells}
use Rattle.gw_desc.specs.Twice.{folded, HasDouble}

-- the name at a place, in lower case
abbrev pub key : List (List ℕ) → ℕ → List ℕ
key names place = folded (get_or names place [])

-- how the names at two places compare
abbrev pub order : List (List ℕ) → ℕ → ℕ → Ordering
order names a b = slice_cmp nat_cmp (key names a) (key names b)

pub order-total : (names : List (List ℕ)) → IsTotalOrder (order names)
order-total names = on_texts (key names)

-- places has each place of the names once
pub record ArePlaces (names : List (List ℕ)) (numbered places : List ℕ) : Type 0 where
  pub as_many : length numbered ≡ length names
  pub own : (k : ℕ) → k < length numbered → get_or numbered k 0 ≡ k
  pub moved : IsPermutation numbered places

own_at : (names : List (List ℕ)) (numbered places : List ℕ) → ArePlaces names numbered places → (k d : ℕ) → k < length numbered → get_or numbered k d ≡ k
own_at names numbered places w k d h = get_or_default_zero numbered k d h ∙ w.own k h

places-apart : (names : List (List ℕ)) (numbered places : List ℕ) → ArePlaces names numbered places → IsDistinct eqb places
places-apart names numbered places w =
    IsDistinct-IsPermutation eqb nat_eq_equiv.symm numbered places w.moved
    (IsDistinct-from_apart eqb numbered (λ i j d before within.
    let p : get_or numbered i d ≡ i = own_at names numbered places w i d (omega arith) in
    let q : get_or numbered j d ≡ j = own_at names numbered places w j d within in
    ne_eqb _ _ (λ e. omega arith)))

-- two of them that have one name are two places of one name
pub double-from_places : (names : List (List ℕ)) (numbered places : List ℕ) → ArePlaces names numbered places → (i j : ℕ) → i < j → j < length places → key names (get_or places i 0) ≡ key names (get_or places j 0) → HasDouble names
double-from_places names numbered places w i j before within same =
    let x = get_or places i 0 in
    let y = get_or places j 0 in
    let below = All-permutation (λ p. p < length names) numbered places w.moved (λ k d h. omega (arith, own_at names numbered places w k d h, w.as_many)) in
    let apart = eqb-false x y (apart_from_distinct eqb places i j 0 (places-apart names numbered places w) before within) in
    elim (leb_tells x y) [
      | inl t ↦ record { first = x; second = y; before = omega arith; within = below j 0 within; same = same }
      | inr t ↦ record { first = y; second = x; before = t.1; within = below i 0 (omega arith); same = sym same }
    ]

only_less : (r s : Ordering) → r ≡ ordering_reverse s → is_lt s ≡ false → r ≢ Equal → r ≡ Less
only_less r s e l n = grind arith

-- where no neighbours have one name, no two places have
pub no_double-from_neighbours : (names : List (List ℕ)) (numbered places : List ℕ) → ArePlaces names numbered places → IsSortedBy (λ a b. is_lt (order names a b)) places → ((k : ℕ) → k + 1 < length places → key names (get_or places k 0) ≢ key names (get_or places (k + 1) 0)) → ¬ HasDouble names
no_double-from_neighbours names numbered places w sorted apart double =
    let total = order-total names in
    let rise = sorted_from_all_adjacent total places 0 (λ k h. only_less _ _ (total.antisymm _ _) (sorted k 0 (omega arith) h) (λ e. apart k h (exact_bytes _ _ e))) in
    let distinct = IsDistinct-IsPermutation (eq_by_cmp (order names)) (eq_by_cmp_equiv total).symm places numbered (IsPermutation-sym _ _ w.moved) (IsDistinct-from_sorted (order names) places rise) in
    let other = apart_from_distinct (eq_by_cmp (order names)) numbered double.first double.second 0 distinct double.before (omega arith) in
    let tie : order names double.first double.second ≡ Equal = ap (λ n. slice_cmp nat_cmp n (key names double.second)) double.same ∙ tied_itself total double.second in
    true≢false (sym (ap is_eq tie) ∙ (rw (w.own double.first (omega arith), w.own double.second (omega arith)) at other))
