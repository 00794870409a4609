-- Pairs that were freed, those that stand together in the order: what is left in the row and in the order.
use Rattle.std.proofs.lemmas.Grind.{common_steps}
use Rattle.std.proofs.Common.{◌≡◌, ◌≢◌, ℕ, ◌+◌, ◌-◌, ◌<◌, ◌≤◌, ◌&&◌, nat_le, nat_lt, Bool, true, false, cond, List, [], ◌∷◌, map, length, take, drop, set, get_or, is_some, Option, Some, None, refl, ap, sym, subst, ◌∙◌, Ok, suc, length-append, length-drop, arith}
use Rattle.std.proofs.lemmas.Bool.Decides.{nat_tests}
use Rattle.std.proofs.lemmas.List.{ext_get_or, get_or_default, get_or_append_left, get_or-append_right, get_or-drop, get_or-map, get_or-set_same, get_or-set_other, get_or-take, length-map, length-set, length-take-le, map-append, take-map, drop-map}
use Rattle.std.proofs.lemmas.List.Elements.{Contains-append_left, Contains-append_right}
use Rattle.std.specs.List.{Contains, remove, remove_range}
use Rattle.std.specs.Option.{option_map, unwrap_or}
use Rattle.gw_msg.specs.declared.message.AckRange.{AckRange}
use Rattle.gw_kept.specs.declared.entry.Entry.{Entry}
use Rattle.gw_kept.specs.declared.entry.RequestKey.{RequestKey}
use Rattle.gw_kept.specs.Pairs.{key_of}
use Rattle.gw_kept.specs.Forgotten.{is_named}
use Rattle.gw_kept.specs.Rows.{present, keys_in, key_in, left_of}
use Rattle.gw_kept.specs.Order.{key_cmp, number_at, place_of, IsOrder, IsSorted, IsSpan, IsStand}
use Rattle.gw_kept.proofs.Forgetting.{keys_get}
use Rattle.gw_kept.proofs.Lists.{below_or_not}
use Rattle.gw_kept.proofs.Orders.{numbers_are, one_place, others, place_at, stand_is}
use Rattle.gw_kept.proofs.Rows.{present_gap, taken_below}

-- ---- a list without some items that stand together

-- where an item stood that is left
record IsLeft (xs : List ℕ) (i j k : ℕ) : Type 0 where
  pub at : ℕ
  pub within : at < length xs
  pub outside : i ≤ at → at < j → ⊥
  pub below : k < i → at ≡ k
  pub above : i ≤ k → at + i ≡ k + j
  pub is : (d : ℕ) → get_or (remove_range xs i j) k d ≡ get_or xs at d

pub length-cut : (xs : List ℕ) (i j : ℕ) → i ≤ j → j ≤ length xs → length (remove_range xs i j) + j ≡ length xs + i
length-cut xs i j le within = omega (arith, length-append (take i xs) (drop j xs), length-take-le i xs (omega arith), length-drop j xs)

left_at : (xs : List ℕ) (i j k : ℕ) → i ≤ j → j ≤ length xs → k < length (remove_range xs i j) → IsLeft xs i j k
left_at xs i j k le within l =
    let front : length (take i xs) ≡ i = length-take-le i xs (omega arith) in
    let size = length-cut xs i j le within in
    below_or_not k i (IsLeft xs i j k)
    (λ less. record {
      at = k;
      within = omega arith;
      outside = λ a b. omega arith;
      below = λ _. refl;
      above = λ a. absurd (omega arith);
      is = λ d. get_or_append_left (take i xs) (drop j xs) d k (omega arith) ∙ get_or-take i xs k d less;
    })
    (λ more.
    let there : j + (k - i) ≡ k + (j - i) = omega arith in
    record {
      at = k + (j - i);
      within = omega arith;
      outside = λ a b. omega arith;
      below = λ a. absurd (omega arith);
      above = λ a. omega arith;
      is = λ d. get_or-append_right (take i xs) (drop j xs) i k d front more ∙ get_or-drop j xs (k - i) d ∙ ap (λ (n : ℕ). get_or xs n d) there;
    })

left_rises : (xs : List ℕ) (i j a b : ℕ) (u : IsLeft xs i j a) (v : IsLeft xs i j b) → i ≤ j → a < b → u.at < v.at
left_rises xs i j a b u v le lt = grind (arith, common_steps)

still_there : (xs : List ℕ) (i j k x : ℕ) → i ≤ j → j ≤ length xs → k < length xs → (i ≤ k → k < j → ⊥) → get_or xs k x ≡ x → Contains (remove_range xs i j) x
still_there xs i j k x le within l out is =
    below_or_not k i (Contains (remove_range xs i j) x)
    (λ less. Contains-append_left (take i xs) (drop j xs) x (k, omega (arith, length-take-le i xs (omega arith)), get_or-take i xs k x less ∙ is))
    (λ more.
    below_or_not k j (Contains (remove_range xs i j) x) (λ less. absurd (out more less))
    (λ behind.
    let there : j + (k - j) ≡ k = omega arith in
    Contains-append_right (take i xs) (drop j xs) x (k - j, omega (arith, length-drop j xs), get_or-drop j xs (k - j) x ∙ ap (λ (n : ℕ). get_or xs n x) there ∙ is)))

map_cut : (f : ℕ → ℕ) (xs : List ℕ) (i j : ℕ) → remove_range (map f xs) i j ≡ map f (remove_range xs i j)
map_cut f xs i j = grind (arith, take-map, drop-map, map-append)

-- ---- what is left in the row

-- there are gaps in the places that stand in the order from start to before end, and nothing else has changed
pub record IsFreed {X : Type 0} (before after : List (Option X)) (places : List ℕ) (start end : ℕ) : Type 0 where
  pub size : length after ≡ length before
  pub gone : (k : ℕ) → start ≤ k → k < end → get_or after (get_or places k 0) None ≡ None
  pub rest : (p : ℕ) → ((k : ℕ) → start ≤ k → k < end → get_or places k 0 ≢ p) → get_or after p None ≡ get_or before p None

pub freed_none : {X : Type 0} (xs : List (Option X)) (places : List ℕ) (start end : ℕ) → end ≤ start → IsFreed xs xs places start end
freed_none xs places start end le = record { size = refl; gone = λ k a b. absurd (omega arith); rest = λ p f. refl }

pub freed_more : {X : Type 0} (before after next : List (Option X)) (places : List ℕ) (start at p : ℕ) → IsFreed before after places start at → start ≤ at → p ≡ get_or places at 0 → p < length before → next ≡ set after p None
    → IsFreed before next places start (at + 1)
freed_more {X} before after next places start at p f le is within made = grind (arith, get_or-set_same, get_or-set_other, length-set)

-- one pair more that stands in the order, and one pair less in the row
pub freed_next : (before after next : List (Option Entry)) (first : ℕ) (numbers : List ℕ) (start at p : ℕ) (o : IsOrder (keys_in before) first numbers) → IsFreed before after o.places start at × (length (present after) + at ≡ length (present before) + start) → start ≤ at
    → at < length numbers → p ≡ place_of first (get_or numbers at 0) → next ≡ set after p None → IsFreed before next o.places start (at + 1) × (length (present next) + (at + 1) ≡ length (present before) + start)
freed_next before after next first numbers start at p o f le l is made =
    let within : at < length o.places = omega (arith, l, numbers_are (keys_in before) first numbers o) in
    let there : p ≡ get_or o.places at 0 = is ∙ place_at (keys_in before) first numbers o at 0 within in
    let taken : is_some (get_or (keys_in before) p None) ≡ true = ap (λ (n : ℕ). is_some (get_or (keys_in before) n None)) there ∙ o.sorted.within at 0 within in
    let stood : is_some (get_or after p None) ≡ true =
    ap is_some (f.0.rest p (λ k a b e. others (keys_in before) o.places at k o.sorted within (omega arith) (λ s. omega arith) (e ∙ there))) ∙ is_there (get_or before p None) (ap is_some (sym (keys_get before p)) ∙ taken) in (
      freed_more before after next o.places start at p f.0 le there (omega (arith, taken_below (keys_in before) p taken, length-map before (option_map key_of))) made,
      omega (arith, ap (λ (xs : List (Option Entry)). length (present xs)) made, present_gap after p stood, f.1),
    )
  where
    is_there : (o : Option Entry) → is_some (option_map key_of o) ≡ true → is_some o ≡ true
    is_there None e = e
    is_there (Some x) e = refl

pub freed_keys : (row next : List (Option Entry)) (places : List ℕ) (start end : ℕ) → IsFreed row next places start end → IsFreed (keys_in row) (keys_in next) places start end
freed_keys row next places start end f = grind (arith, length-map, keys_get)

-- ---- what is left in the order

gone_not : (o : Option RequestKey) → o ≡ None → is_some o ≡ true → ⊥
gone_not o e t = let clash : false ≡ true = sym (ap is_some e) ∙ t in absurd cc

sorted_cut : (keys next : List (Option RequestKey)) (places : List ℕ) (start end : ℕ) → IsSorted keys places → start ≤ end → end ≤ length places → IsFreed keys next places start end → IsSorted next (remove_range places start end)
sorted_cut keys next places start end sorted le within f =
    let cut : List ℕ = remove_range places start end in
    let stays : (at : ℕ) → at < length places → (start ≤ at → at < end → ⊥) → get_or next (get_or places at 0) None ≡ get_or keys (get_or places at 0) None =
    λ at l out. f.rest (get_or places at 0) (λ k a b. others keys places at k sorted l (omega arith) (λ e. out (omega arith) (omega arith))) in
    let place : (k d : ℕ) (left : IsLeft places start end k) → get_or cut k d ≡ get_or places left.at 0 = λ k d left. left.is d ∙ get_or_default places left.at d 0 left.within in
    record {
      within = λ k d l.
          let left = left_at places start end k le within l in
          ap (λ (n : ℕ). is_some (get_or next n None)) (place k d left) ∙ ap is_some (stays left.at left.within left.outside) ∙ sorted.within left.at 0 left.within;
      whole = λ p t.
          let apart : (k : ℕ) → start ≤ k → k < end → get_or places k 0 ≢ p = λ k a b e. gone_not (get_or next p None) (ap (λ (n : ℕ). get_or next n None) (sym e) ∙ f.gone k a b) t in
          let c = sorted.whole p (ap is_some (sym (f.rest p apart)) ∙ t) in
          still_there places start end c.0 p le within c.1 (λ a b. apart c.0 a b (get_or_default places c.0 0 p c.1 ∙ c.2)) c.2;
      rises = λ a b d lt l e.
          let u = left_at places start end a le within (omega arith) in
          let v = left_at places start end b le within l in
          ap (λ (n : ℕ). key_cmp (key_in next n e) (key_in next (get_or cut b d) e)) (place a d u)
          ∙ ap (λ (n : ℕ). key_cmp (key_in next (get_or places u.at 0) e) (key_in next n e)) (place b d v)
          ∙ ap (λ (o : Option RequestKey). key_cmp (unwrap_or o e) (key_in next (get_or places v.at 0) e)) (stays u.at u.within u.outside)
          ∙ ap (λ (o : Option RequestKey). key_cmp (key_in keys (get_or places u.at 0) e) (unwrap_or o e)) (stays v.at v.within v.outside)
          ∙ sorted.rises u.at v.at 0 (left_rises places start end a b u v le lt) v.within e;
    }

pub order_cut : (keys next : List (Option RequestKey)) (first : ℕ) (numbers : List ℕ) (start end : ℕ) → (o : IsOrder keys first numbers) → start ≤ end → end ≤ length numbers → IsFreed keys next o.places start end
    → length (present next) + end ≡ length (present keys) + start → IsOrder next first (remove_range numbers start end)
order_cut keys next first numbers start end o le within f count =
    record {
      places = remove_range o.places start end;
      numbered = ap (λ (ns : List ℕ). remove_range ns start end) o.numbered ∙ map_cut (number_at first) o.places start end;
      sorted = sorted_cut keys next o.places start end o.sorted le (omega (arith, within, numbers_are keys first numbers o)) f;
      around = o.around;
      few = omega (arith, f.size, o.few);
      many = omega (arith, length-cut numbers start end le within, o.many, count);
    }

-- ---- a range names those that were freed

pub freed_left : (mid : List ℕ) (range : AckRange) (row next : List (Option Entry)) (places : List ℕ) (start end : ℕ) → IsSorted (keys_in row) places → IsSpan (keys_in row) places mid range (start, end) → end ≤ length places
    → IsFreed row next places start end → next ≡ map (left_of mid (range ∷ [])) row
freed_left mid range row next places start end sorted span within f =
    ext_get_or None next (map (left_of mid (range ∷ [])) row) (f.size ∙ sym (length-map row (left_of mid (range ∷ []))))
    (λ p l. one p (get_or row p None) refl ∙ sym (get_or-map (left_of mid (range ∷ [])) row p None None (omega (arith, f.size, l))))
  where
    named : (t : Bool) (x : Entry) → is_named mid (range ∷ []) (key_of x) ≡ t → left_of mid (range ∷ []) (Some x) ≡ cond t None (Some x)
    named t x e = ap (λ (b : Bool). cond b None (Some x)) e

    one : (p : ℕ) (o : Option Entry) → get_or row p None ≡ o → get_or next p None ≡ left_of mid (range ∷ []) o
    one p None e = f.rest p (λ k a b same. gone_not (get_or (keys_in row) p None) (keys_get row p ∙ ap (option_map key_of) e) (ap (λ (n : ℕ). is_some (get_or (keys_in row) n None)) (sym same) ∙ sorted.within k 0 (omega arith))) ∙ e
    one p (Some x) e =
        let at : get_or (keys_in row) p None ≡ Some (key_of x) = keys_get row p ∙ ap (option_map key_of) e in
        let c = sorted.whole p (ap is_some at) in
        let here : get_or places c.0 0 ≡ p = get_or_default places c.0 0 p c.1 ∙ c.2 in
        let is : (nat_le start c.0 && nat_lt c.0 end) ≡ is_named mid (range ∷ []) (key_of x) =
        span c.0 (key_of x) c.1 ∙ ap (λ (n : ℕ). is_named mid (range ∷ []) (key_in (keys_in row) n (key_of x))) here ∙ ap (λ (k : Option RequestKey). is_named mid (range ∷ []) (unwrap_or k (key_of x))) at in
        let stays : (nat_le start c.0 && nat_lt c.0 end) ≡ false → (start ≤ c.0 → c.0 < end → ⊥) → get_or next p None ≡ left_of mid (range ∷ []) (Some x) =
        λ t out.
        f.rest p (λ k a b same. others (keys_in row) places c.0 k sorted c.1 (omega arith) (λ s. out (omega arith) (omega arith)) (same ∙ sym here)) ∙ e ∙ sym (named false x (sym is ∙ t)) in
        below_or_not c.0 start (get_or next p None ≡ left_of mid (range ∷ []) (Some x))
        (λ less. stays (grind (arith, nat_tests)) (λ a b. omega arith))
        (λ more.
        below_or_not c.0 end (get_or next p None ≡ left_of mid (range ∷ []) (Some x))
        (λ less. ap (λ (n : ℕ). get_or next n None) (sym here) ∙ f.gone c.0 more less ∙ sym (named true x (sym is ∙ (let t : (nat_le start c.0 && nat_lt c.0 end) ≡ true = grind (arith, nat_tests) in t))))
        (λ behind. stays (grind (arith, nat_tests)) (λ a b. omega arith)))

-- ---- the foremost pair leaves

pub front_out : (keys : List (Option RequestKey)) (first : ℕ) (numbers : List ℕ) (key : RequestKey) (i : ℕ) → (o : IsOrder keys first numbers) → IsStand keys o.places key (Ok i) → get_or keys 0 None ≡ Some key → IsOrder (set keys 0 None) first (remove numbers i)
front_out keys first numbers key i o stand at =
    let there : 0 ≡ get_or o.places i 0 = one_place keys first numbers 0 (get_or o.places i 0) key o at (stand_is keys o.places key i o.sorted stand) in
    let one : i + 1 ≡ suc i = omega arith in
    let taken : is_some (get_or keys 0 None) ≡ true = ap is_some at in
    let f : IsFreed keys (set keys 0 None) o.places i (i + 1) = freed_more keys keys (set keys 0 None) o.places i i 0 (freed_none keys o.places i i (omega arith)) (omega arith) there (taken_below keys 0 taken) refl in
    subst (λ (n : ℕ). IsOrder (set keys 0 None) first (remove_range numbers i n)) one
    (order_cut keys (set keys 0 None) first numbers i (i + 1) o (omega arith) (omega (arith, stand.0, numbers_are keys first numbers o)) f (omega (arith, present_gap keys 0 taken)))
