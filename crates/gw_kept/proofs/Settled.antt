-- The ring and the order of the keys when gaps are closed.
use Rattle.std.proofs.Common.{◌≡◌, ℕ, zero, suc, ◌+◌, ◌-◌, ◌<◌, ◌≤◌, true, cond, List, [], ◌∷◌, ◌++◌, map, length, take, drop, get_or, is_some, Option, Some, None, refl, ap, sym, ◌∙◌, append_assoc, length-append, length-drop, arith, rules}
use Rattle.std.proofs.lemmas.List.{append-nil, drop_more, take_more, take-map, length-map, length-take, map-append}
use Rattle.std.proofs.lemmas.Simd.{map-map}
use Rattle.std.proofs.lemmas.List.Elements.{All-weaker}
use Rattle.gw_kept.specs.declared.entry.Entry.{Entry}
use Rattle.gw_kept.specs.declared.entry.RequestKey.{RequestKey}
use Rattle.gw_kept.specs.Rows.{present, keys_in, most_places}
use Rattle.gw_kept.specs.Order.{number_at, place_of, IsTaken, IsSorted, IsOrder}
use Rattle.gw_kept.proofs.Circle.{place_back}
use Rattle.gw_kept.proofs.Lists.{map_agree}
use Rattle.gw_kept.proofs.Orders.{sorted_moved}
use Rattle.gw_kept.proofs.Rows.{few_present, present_append, present_map, present_some, taken_below}

module _ {X : Type 0} where
  -- how many are there in front of a place
  abbrev pub rank : List (Option X) → ℕ → ℕ
  rank xs p = length (present (take p xs))

  -- the same without the gaps
  abbrev pub closed : List (Option X) → List (Option X)
  closed xs = map (λ x. Some x) (present xs)

  pub rank_at : (xs : List (Option X)) (p : ℕ) → is_some (get_or xs p None) ≡ true → get_or (closed xs) (rank xs p) None ≡ get_or xs p None
  rank_at [] p h = absurd cc
  rank_at (Some x ∷ xs) zero h = refl
  rank_at (None ∷ xs) zero h = absurd cc
  rank_at (Some x ∷ xs) (suc p) h = rank_at xs p h
  rank_at (None ∷ xs) (suc p) h = rank_at xs p h

  pub few_before : (xs : List (Option X)) (p : ℕ) → rank xs p ≤ p
  few_before xs p = omega (arith, few_present (take p xs), length-take p xs)

  -- the place of what stands there without the gaps
  pub ranked : (xs : List (Option X)) (q : ℕ) → is_some (get_or (closed xs) q None) ≡ true → (p : ℕ) × (is_some (get_or xs p None) ≡ true) × (rank xs p ≡ q)
  ranked [] q h = absurd cc
  ranked (Some x ∷ xs) zero h = (0, refl, refl)
  ranked (Some x ∷ xs) (suc q) h = let r = ranked xs q h in (suc r.0, r.1, ap suc r.2)
  ranked (None ∷ xs) q h = let r = ranked xs q h in (suc r.0, r.1, r.2)

-- one place more
rank_step : {X : Type 0} (o : Option X) (xs : List (Option X)) → length (present (xs ++ o ∷ [])) ≡ length (present xs) + cond (is_some o) 1 0
rank_step o xs = grind (arith, present_append, length-append)

pub rank_more : {X : Type 0} (xs : List (Option X)) (i : ℕ) → i < length xs → rank xs (i + 1) ≡ rank xs i + cond (is_some (get_or xs i None)) 1 0
rank_more xs i l = ap (λ ys. length (present ys)) (take_more xs i None l) ∙ rank_step (get_or xs i None) (take i xs)

pub rank_keys : (row : List (Option Entry)) (p : ℕ) → rank (keys_in row) p ≡ rank row p
rank_keys row p = search (rules, take-map, present_map, length-map)

-- ---- the order

sorted_closed : (keys : List (Option RequestKey)) (places : List ℕ) → IsSorted keys places → IsSorted (closed keys) (map (rank keys) places)
sorted_closed keys places sorted = sorted_moved keys (closed keys) places (rank keys) sorted (rank_at keys) (ranked keys)

small_number : (n : ℕ) → n ≤ most_places → n ≡ number_at 0 n
small_number n h = omega arith

pub order_closed : (keys : List (Option RequestKey)) (first : ℕ) (numbers places next : List ℕ) → IsOrder keys first numbers → ((p : ℕ) → p < length keys → get_or places p 0 ≡ rank keys p) → next ≡ map (λ n. get_or places (place_of first n) 0) numbers → IsOrder (closed keys) 0 next
order_closed keys first numbers places next o ranks is =
    let below : (p : ℕ) → IsTaken keys p → p < length keys = λ p h. taken_below keys p h in
    let back : (p : ℕ) → IsTaken keys p → get_or places (place_of first (number_at first p)) 0 ≡ number_at 0 (rank keys p) =
    λ p h.
    ap (λ (q : ℕ). get_or places q 0) (place_back first p o.around (omega (arith, below p h, o.few))) ∙ ranks p (below p h) ∙ small_number (rank keys p) (omega (arith, few_before keys p, below p h, o.few))
    in
    record {
      places = map (rank keys) o.places;
      numbered =
          is
          ∙ ap (map (λ n. get_or places (place_of first n) 0)) o.numbered
          ∙ map-map (λ n. get_or places (place_of first n) 0) (number_at first) o.places
          ∙ map_agree (λ p. get_or places (place_of first (number_at first p)) 0) (λ p. number_at 0 (rank keys p)) o.places
          (All-weaker (IsTaken keys) (λ p. get_or places (place_of first (number_at first p)) 0 ≡ number_at 0 (rank keys p)) back o.places o.sorted.within)
          ∙ sym (map-map (number_at 0) (rank keys) o.places);
      sorted = sorted_closed keys o.places o.sorted;
      around = omega arith;
      few = omega (arith, length-map (present keys) (λ k. Some k), few_present keys, o.few);
      many = ap length is ∙ length-map numbers (λ n. get_or places (place_of first n) 0) ∙ o.many ∙ ap length (sym (present_some (present keys)));
    }

-- ---- the ring, turned once round

module _ {X : Type 0} where
  -- so many went from the front to the back, but the gaps
  abbrev pub turned : List (Option X) → ℕ → List (Option X)
  turned xs i = drop i xs ++ closed (take i xs)

  closed_more : (xs : List (Option X)) (i : ℕ) → i < length xs → closed (take (i + 1) xs) ≡ closed (take i xs) ++ closed (get_or xs i None ∷ [])
  closed_more xs i l =
      ap closed (take_more xs i None l)
      ∙ ap (map (λ x. Some x)) (present_append (take i xs) (get_or xs i None ∷ []))
      ∙ map-append (λ x. Some x) (present (take i xs)) (present (get_or xs i None ∷ []))

  pub turned_front : (xs : List (Option X)) (i : ℕ) → i < length xs → get_or (turned xs i) 0 None ≡ get_or xs i None
  turned_front xs i l = ap (λ (ys : List (Option X)). get_or (ys ++ closed (take i xs)) 0 None) (drop_more xs i None l)

  without_front : (xs : List (Option X)) (i : ℕ) → i < length xs → drop 1 (turned xs i) ≡ drop (i + 1) xs ++ closed (take i xs)
  without_front xs i l = ap (λ (ys : List (Option X)). drop 1 (ys ++ closed (take i xs))) (drop_more xs i None l)

  pub turn_gap : (xs : List (Option X)) (i : ℕ) → i < length xs → None ≡ get_or xs i None → drop 1 (turned xs i) ≡ turned xs (i + 1)
  turn_gap xs i l at = grind (arith, without_front, closed_more, append-nil)

  pub turn_pair : (xs : List (Option X)) (i : ℕ) (x : X) → i < length xs → Some x ≡ get_or xs i None → drop 1 (turned xs i) ++ Some x ∷ [] ≡ turned xs (i + 1)
  turn_pair xs i x l at = grind (arith, without_front, append_assoc, closed_more)

  -- there is room for the one that went
  pub turned_short : (xs : List (Option X)) (i : ℕ) → i < length xs → length (drop 1 (turned xs i)) < length xs
  turned_short xs i l = grind (arith, without_front, length-append, length-drop, length-map, few_present, length-take)
