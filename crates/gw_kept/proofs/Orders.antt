-- What a search in the order of keys finds, and the order with one pair more or less.
use Rattle.std.proofs.lemmas.Grind.{common_steps}
use Rattle.std.proofs.Common.{◌≡◌, ℕ, ◌+◌, ◌-◌, ◌<◌, ◌%◌, ◌^◌, ◌≢◌, true, false, List, [], ◌∷◌, ◌++◌, map, length, drop, set, get_or, is_some, Option, Some, None, Result, Ok, Err, refl, ap, sym, subst, ◌∙◌, length-append, arith}
use Rattle.std.proofs.lemmas.List.{get_or_default, length-map, get_or_append_left, get_or_push, length-drop, get_or-drop}
use Rattle.std.proofs.lemmas.List.Edits.{length-insert}
use Rattle.std.proofs.lemmas.Simd.{map-map}
use Rattle.std.proofs.lemmas.List.Elements.{All-map, All-weaker}
use Rattle.std.proofs.lemmas.List.Sorted.{searchable_from_sorted}
use Rattle.std.specs.Cmp.{tied_itself}
use Rattle.std.specs.List.{Contains, insert}
use Rattle.std.specs.List.Sorted.{IsSearchInRange, IsBinarySearchResult, IsNonDecreasingBy}
use Rattle.std.specs.Option.{unwrap_or}
use Rattle.std.specs.Ordering.{is_eq, is_lt, ordering_index, ordering_reverse}
use Rattle.std.specs.declared.cmp.Ordering.{Ordering}
use Rattle.std.specs.declared.cmp.Ordering.TheVariants.{Less, Equal, Greater}
use Rattle.gw_kept.specs.declared.entry.RequestKey.{RequestKey}
use Rattle.gw_kept.specs.Rows.{present, key_in, most_places}
use Rattle.gw_kept.specs.Order.{key_cmp, key_total, number_at, place_of, Before, IsTaken, IsSorted, IsOrder, IsStand}
use Rattle.gw_kept.proofs.Circle.{number_next, next_around}
use Rattle.gw_kept.proofs.Lists.{contains_map, three_ways, below_or_not, all_insert, contains_insert, contains_itself, all_pairs_insert, all_pairs_weaker, all_pairs_map, map_agree, map_insert}
use Rattle.gw_kept.proofs.Places.{key_test, same_key}
use Rattle.gw_kept.proofs.Rows.{present_append, present_behind, taken_below, key_default}

-- ---- the order of keys

pub keys_tie : (a b : RequestKey) → key_cmp a b ≡ Equal → a ≡ b
keys_tie a b e = same_key a b (sym (key_test a b) ∙ ap is_eq e)

pub ties_itself : (a b : RequestKey) → a ≡ b → key_cmp a b ≡ Equal
ties_itself a b e = subst (λ (k : RequestKey). key_cmp a k ≡ Equal) e (tied_itself key_total a)

not_less : (r s : Ordering) → r ≡ ordering_reverse s → s ≡ Less → is_lt r ≡ false
not_less r s e h = ap is_lt (e ∙ ap ordering_reverse h)

-- ---- places that are apart have keys that are apart

nobody : RequestKey
nobody = record { mid = []; id = 0 }

apart : (keys : List (Option RequestKey)) (p q : ℕ) (d : RequestKey) → Before keys p q → key_in keys p d ≡ key_in keys q d → ⊥
apart keys p q d less same = grind (arith, ties_itself)

differ : (keys : List (Option RequestKey)) (p q : ℕ) → Before keys p q → p ≢ q
differ keys p q before e = apart keys p q nobody before (ap (λ (n : ℕ). key_in keys n nobody) e)

pub unique : (keys : List (Option RequestKey)) (places : List ℕ) (p q : ℕ) (d : RequestKey) → IsSorted keys places → IsTaken keys p → IsTaken keys q → key_in keys p d ≡ key_in keys q d → p ≡ q
unique keys places p q d sorted lp lq same =
    let a = sorted.whole p lp in
    let b = sorted.whole q lq in
    let pa : get_or places a.0 0 ≡ p = get_or_default places a.0 0 p a.1 ∙ a.2 in
    let qb : get_or places b.0 0 ≡ q = get_or_default places b.0 0 q b.1 ∙ b.2 in
    three_ways a.0 b.0 (p ≡ q)
    (λ l. absurd (apart keys p q d (subst (λ (n : ℕ). Before keys n q) pa (subst (Before keys (get_or places a.0 0)) qb (sorted.rises a.0 b.0 0 l b.1))) same))
    (λ e. sym pa ∙ ap (λ (n : ℕ). get_or places n 0) e ∙ qb)
    (λ l. absurd (apart keys q p d (subst (λ (n : ℕ). Before keys n p) qb (subst (Before keys (get_or places b.0 0)) pa (sorted.rises b.0 a.0 0 l a.1))) (sym same)))

-- no key stands at two places
pub one_place : (keys : List (Option RequestKey)) (first : ℕ) (numbers : List ℕ) (p q : ℕ) (k : RequestKey) → IsOrder keys first numbers → get_or keys p None ≡ Some k → get_or keys q None ≡ Some k → p ≡ q
one_place keys first numbers p q k o a b =
    unique keys o.places p q k o.sorted (ap is_some a) (ap is_some b) (ap (λ (m : Option RequestKey). unwrap_or m k) a ∙ sym (ap (λ (m : Option RequestKey). unwrap_or m k) b))

-- ---- what a search finds

pub numbers_are : (keys : List (Option RequestKey)) (first : ℕ) (numbers : List ℕ) (o : IsOrder keys first numbers) → length numbers ≡ length o.places
numbers_are keys first numbers o = ap length o.numbered ∙ length-map o.places (number_at first)

pub place_at : (keys : List (Option RequestKey)) (first : ℕ) (numbers : List ℕ) (o : IsOrder keys first numbers) (i d : ℕ) → i < length o.places → place_of first (get_or numbers i d) ≡ get_or o.places i 0
place_at keys first numbers o i d l = grind (arith, common_steps)

key_at : (keys : List (Option RequestKey)) (first : ℕ) (numbers : List ℕ) (o : IsOrder keys first numbers) (key : RequestKey) (i d : ℕ) → i < length o.places → key_in keys (place_of first (get_or numbers i d)) key ≡ key_in keys (get_or o.places i 0) key
key_at keys first numbers o key i d l = ap (λ (n : ℕ). key_in keys n key) (place_at keys first numbers o i d l)

-- the keys by which the numbers are searched rise
rising : (keys : List (Option RequestKey)) (first : ℕ) (numbers : List ℕ) (key : RequestKey) → IsOrder keys first numbers → IsNonDecreasingBy (λ n. ordering_index (key_cmp (key_in keys (place_of first n) key) key)) numbers
rising keys first numbers key o =
    let size = numbers_are keys first numbers o in
    searchable_from_sorted key_total (λ n. key_in keys (place_of first n) key) numbers key
    (λ k d low high.
    let here = key_at keys first numbers o key k d (omega (arith, size)) in
    let next = key_at keys first numbers o key (k + 1) d (omega (arith, size)) in
    let less : key_cmp (key_in keys (get_or o.places k 0) key) (key_in keys (get_or o.places (k + 1) 0) key) ≡ Less = o.sorted.rises k (k + 1) 0 (omega arith) (omega (arith, size)) key in
    not_less (key_cmp (key_in keys (place_of first (get_or numbers (k + 1) d)) key) (key_in keys (place_of first (get_or numbers k d)) key))
    (key_cmp (key_in keys (place_of first (get_or numbers k d)) key) (key_in keys (place_of first (get_or numbers (k + 1) d)) key))
    (key_total.antisymm (key_in keys (place_of first (get_or numbers (k + 1) d)) key) (key_in keys (place_of first (get_or numbers k d)) key))
    (ap (λ (a : RequestKey). key_cmp a (key_in keys (place_of first (get_or numbers (k + 1) d)) key)) here ∙ ap (key_cmp (key_in keys (get_or o.places k 0) key)) next ∙ less))

pub searched : (keys : List (Option RequestKey)) (first : ℕ) (numbers : List ℕ) (key : RequestKey) (r : Result ℕ ℕ) → (o : IsOrder keys first numbers) → IsSearchInRange r (length numbers)
    → IsBinarySearchResult (λ n. key_cmp (key_in keys (place_of first n) key) key) numbers r → IsStand keys o.places key r
searched keys first numbers key (Ok i) o range found =
    let l : i < length o.places = omega (arith, range, numbers_are keys first numbers o) in
    (l, sym (key_at keys first numbers o key i 0 l) ∙ keys_tie (key_in keys (place_of first (get_or numbers i 0)) key) key (found 0))
searched keys first numbers key (Err i) o range parted =
    let size = numbers_are keys first numbers o in
    let split = parted (rising keys first numbers key o) in
    let moved : (k d : ℕ) → k < length o.places → key_in keys (place_of first (get_or numbers k d)) key ≡ key_in keys (get_or o.places k d) key =
    λ k d l. key_at keys first numbers o key k d l ∙ ap (λ (n : ℕ). key_in keys n key) (get_or_default o.places k 0 d l) in (
      omega (arith, range, size),
      (
        λ k d low high. ap (λ (a : RequestKey). key_cmp a key) (sym (moved k d (omega (arith, range, size)))) ∙ split.0 k d low high,
        λ k d low high. ap (λ (a : RequestKey). key_cmp a key) (sym (moved k d high)) ∙ split.1 k d low (omega (arith, size)),
      ),
    )

-- ---- where a key comes behind the last one

less_is : (r : Ordering) → is_lt r ≡ true → r ≡ Less
less_is r e = grind arith

pub behind_all : (keys : List (Option RequestKey)) (first : ℕ) (numbers : List ℕ) (key : RequestKey) (i number : ℕ) → (o : IsOrder keys first numbers) → i + 1 ≡ length numbers → number ≡ get_or numbers i number
    → is_lt (key_cmp (key_in keys (place_of first number) key) key) ≡ true → IsStand keys o.places key (Err (length numbers))
behind_all keys first numbers key i number o last read less =
    let size = numbers_are keys first numbers o in
    let within : i < length o.places = omega (arith, size, last) in
    let below : key_cmp (key_in keys (get_or o.places i 0) key) key ≡ Less =
    sym (ap (λ (n : ℕ). key_cmp (key_in keys (place_of first n) key) key) read ∙ ap (λ (a : RequestKey). key_cmp a key) (key_at keys first numbers o key i number within))
    ∙ less_is (key_cmp (key_in keys (place_of first number) key) key) less in (
      omega (arith, size),
      (
        λ k d low high.
            below_or_not k i (key_cmp (key_in keys (get_or o.places k d) key) key ≡ Less)
            (λ l.
            key_total.trans (key_in keys (get_or o.places k d) key) (key_in keys (get_or o.places i 0) key) key
            (ap (λ (n : ℕ). key_cmp (key_in keys n key) (key_in keys (get_or o.places i 0) key)) (get_or_default o.places k d 0 (omega (arith, within))) ∙ o.sorted.rises k i 0 l within key)
            below)
            (λ l.
            let same : k ≡ i = omega (arith, last, high) in
            ap (λ (n : ℕ). key_cmp (key_in keys n key) key) (ap (λ (m : ℕ). get_or o.places m d) same ∙ get_or_default o.places i d 0 within) ∙ below),
        λ k d low high. absurd (omega (arith, low, high, size)),
      ),
    )

pub stand_is : (keys : List (Option RequestKey)) (places : List ℕ) (key : RequestKey) (i : ℕ) → IsSorted keys places → IsStand keys places key (Ok i) → get_or keys (get_or places i 0) None ≡ Some key
stand_is keys places key i sorted stand = grind (arith, common_steps)

pub not_found : (keys : List (Option RequestKey)) (places : List ℕ) (key : RequestKey) (i : ℕ) → IsSorted keys places → IsStand keys places key (Err i) → (p : ℕ) → get_or keys p None ≢ Some key
not_found keys places key i sorted stand p e = grind (arith, ties_itself)

-- each number is that of a place
pub place_below : (keys : List (Option RequestKey)) (first : ℕ) (numbers : List ℕ) (i d : ℕ) → IsOrder keys first numbers → i < length numbers → place_of first (get_or numbers i d) < length keys
place_below keys first numbers i d o l =
    let m : i < length o.places = omega (arith, numbers_are keys first numbers o) in
    subst (λ (p : ℕ). p < length keys) (sym (place_at keys first numbers o i d m)) (taken_below keys (get_or o.places i 0) (o.sorted.within i 0 m))

-- ---- one more pair, behind the others

turned : (r s : Ordering) → r ≡ ordering_reverse s → s ≡ Greater → r ≡ Less
turned r s e h = e ∙ ap ordering_reverse h

sorted_more : (keys : List (Option RequestKey)) (places : List ℕ) (key : RequestKey) (i : ℕ) → IsSorted keys places → IsStand keys places key (Err i) → IsSorted (keys ++ Some key ∷ []) (insert places i (length keys))
sorted_more keys places key i sorted stand =
    let more : List (Option RequestKey) = keys ++ Some key ∷ [] in
    let size : length more ≡ length keys + 1 = length-append keys (Some key ∷ []) in
    let here : (p : ℕ) → p < length keys → get_or keys p None ≡ get_or more p None = λ p l. sym (get_or_append_left keys (Some key ∷ []) None p l) in
    let there : (p : ℕ) (d : RequestKey) → IsTaken keys p → key_in keys p d ≡ key_in more p d = λ p d l. ap (λ (o : Option RequestKey). unwrap_or o d) (here p (taken_below keys p l)) in
    let last_is : get_or more (length keys) None ≡ Some key = get_or_push keys (Some key) None (length keys) refl in
    let last : (d : RequestKey) → key ≡ key_in more (length keys) d = λ d. sym (ap (λ (o : Option RequestKey). unwrap_or o d) last_is) in
    record {
      within = all_insert (IsTaken more) places i (length keys) (All-weaker (IsTaken keys) (IsTaken more) (λ p l. ap is_some (sym (here p (taken_below keys p l))) ∙ l) places sorted.within) (ap is_some last_is);
      whole =
          λ p l. three_ways p (length keys) (Contains (insert places i (length keys)) p)
          (λ less. contains_insert places i (length keys) p (sorted.whole p (ap is_some (here p less) ∙ l)))
          (λ e. subst (Contains (insert places i (length keys))) (sym e) (contains_itself places i (length keys)))
          (λ behind. absurd (omega (arith, size, taken_below more p l)));
      rises =
          all_pairs_insert (Before more) places i (length keys) stand.0
          (all_pairs_weaker (IsTaken keys) (Before keys) (Before more) places sorted.within
          (λ p q lp lq before d. ap (λ (a : RequestKey). key_cmp a (key_in more q d)) (sym (there p d lp)) ∙ ap (key_cmp (key_in keys p d)) (sym (there q d lq)) ∙ before d) sorted.rises)
          (λ k d l e.
          let within : IsTaken keys (get_or places k d) = sorted.within k d (omega (arith, stand.0)) in
          ap (λ (a : RequestKey). key_cmp a (key_in more (length keys) e)) (sym (there (get_or places k d) e within))
          ∙ ap (λ (a : RequestKey). key_cmp (key_in keys (get_or places k d) e) a) (sym (last e))
          ∙ ap (λ (a : RequestKey). key_cmp a key) (key_default keys (get_or places k d) e key within)
          ∙ stand.1.0 k d (omega arith) l)
          (λ k d low high e.
          let within : IsTaken keys (get_or places k d) = sorted.within k d high in
          ap (λ (a : RequestKey). key_cmp a (key_in more (get_or places k d) e)) (sym (last e))
          ∙ ap (key_cmp key) (sym (there (get_or places k d) e within) ∙ key_default keys (get_or places k d) e key within)
          ∙ turned (key_cmp key (key_in keys (get_or places k d) key)) (key_cmp (key_in keys (get_or places k d) key) key) (key_total.antisymm key (key_in keys (get_or places k d) key)) (stand.1.1 k d low high));
    }

pub one_more_order : (keys : List (Option RequestKey)) (first : ℕ) (numbers next : List ℕ) (key : RequestKey) (i number : ℕ) → (o : IsOrder keys first numbers) → IsStand keys o.places key (Err i) → length keys < most_places
    → number ≡ number_at first (length keys) → next ≡ insert numbers i number → IsOrder (keys ++ Some key ∷ []) first next
one_more_order keys first numbers next key i number o stand few is made =
    record {
      places = insert o.places i (length keys);
      numbered =
          made ∙ ap (insert numbers i) is ∙ ap (λ (ns : List ℕ). insert ns i (number_at first (length keys))) o.numbered ∙ map_insert (number_at first) o.places i (length keys);
      sorted = sorted_more keys o.places key i o.sorted stand;
      around = o.around;
      few = omega (arith, length-append keys (Some key ∷ []));
      many =
          ap length made
          ∙ length-insert numbers i number (omega (arith, stand.0, numbers_are keys first numbers o))
          ∙ ap (λ (n : ℕ). n + 1) o.many
          ∙ sym (ap length (present_append keys (Some key ∷ [])) ∙ length-append (present keys) (key ∷ []));
    }

-- the other places are others
pub others : (keys : List (Option RequestKey)) (places : List ℕ) (i j : ℕ) → IsSorted keys places → i < length places → j < length places → (j ≡ i → ⊥) → get_or places j 0 ≢ get_or places i 0
others keys places i j sorted li lj other e =
    three_ways i j ⊥ (λ l. differ keys (get_or places i 0) (get_or places j 0) (sorted.rises i j 0 l lj) (sym e)) (λ same. other (sym same))
    (λ l. differ keys (get_or places j 0) (get_or places i 0) (sorted.rises j i 0 l li) e)

-- ---- without a gap in front

-- the keys stand in their order still where each has moved
pub sorted_moved : (keys other : List (Option RequestKey)) (places : List ℕ) (f : ℕ → ℕ) → IsSorted keys places → ((p : ℕ) → IsTaken keys p → get_or other (f p) None ≡ get_or keys p None)
    → ((q : ℕ) → IsTaken other q → (p : ℕ) × IsTaken keys p × (f p ≡ q)) → IsSorted other (map f places)
sorted_moved keys other places f sorted moved back = record {
  within = All-map (IsTaken other) f places (All-weaker (IsTaken keys) (λ p. IsTaken other (f p)) (λ p h. ap is_some (moved p h) ∙ h) places sorted.within);
  whole = λ q t. let r = back q t in contains_map f places r.0 q r.2 (sorted.whole r.0 r.1);
  rises =
      all_pairs_map f (Before other) places
      (all_pairs_weaker (IsTaken keys) (Before keys) (λ p q. Before other (f p) (f q)) places sorted.within
      (λ p q hp hq before d.
      ap (λ (o : Option RequestKey). key_cmp (unwrap_or o d) (key_in other (f q) d)) (moved p hp)
      ∙ ap (λ (o : Option RequestKey). key_cmp (key_in keys p d) (unwrap_or o d)) (moved q hq) ∙ before d)
      sorted.rises);
}

taken_later : (keys : List (Option RequestKey)) (p : ℕ) → get_or keys 0 None ≡ None → IsTaken keys p → 0 < p
taken_later keys p gap taken = grind (arith, common_steps)

sorted_behind : (keys : List (Option RequestKey)) (places : List ℕ) → IsSorted keys places → get_or keys 0 None ≡ None → IsSorted (drop 1 keys) (map (λ p. p - 1) places)
sorted_behind keys places sorted gap =
    sorted_moved keys (drop 1 keys) places (λ p. p - 1) sorted
    (λ p h. let e : 1 + (p - 1) ≡ p = omega (arith, taken_later keys p gap h) in get_or-drop 1 keys (p - 1) None ∙ ap (λ (q : ℕ). get_or keys q None) e)
    (λ q t. let e : q + 1 ≡ 1 + q = omega arith in (q + 1, ap is_some (ap (λ (n : ℕ). get_or keys n None) e ∙ sym (get_or-drop 1 keys q None)) ∙ t, omega arith))

pub order_behind : (keys : List (Option RequestKey)) (first next : ℕ) (numbers : List ℕ) → IsOrder keys first numbers → get_or keys 0 None ≡ None → next ≡ (first + 1) % 2 ^ 16 → IsOrder (drop 1 keys) next numbers
order_behind keys first next numbers o gap is =
    record {
      places = map (λ p. p - 1) o.places;
      numbered =
          o.numbered
          ∙ map_agree (number_at first) (λ p. number_at next (p - 1)) o.places
          (All-weaker (IsTaken keys) (λ p. number_at first p ≡ number_at next (p - 1)) (λ p h. number_next first next p o.around (taken_later keys p gap h) is) o.places o.sorted.within)
          ∙ sym (map-map (number_at next) (λ p. p - 1) o.places);
      sorted = sorted_behind keys o.places o.sorted gap;
      around = subst (λ (n : ℕ). n < 2 ^ 16) (sym is) (next_around first);
      few = omega (arith, length-drop 1 keys, o.few);
      many = o.many ∙ ap length (sym (present_behind keys gap));
    }

-- ---- the foremost pair leaves

same_behind : (keys : List (Option RequestKey)) → drop 1 (set keys 0 None) ≡ drop 1 keys
same_behind keys = grind arith

pub front_left : (keys : List (Option RequestKey)) (first next : ℕ) (numbers : List ℕ) → IsOrder (set keys 0 None) first numbers → next ≡ (first + 1) % 2 ^ 16 → IsOrder (drop 1 keys) next numbers
front_left keys first next numbers o is = grind (arith, same_behind, order_behind)
