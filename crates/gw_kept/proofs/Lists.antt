-- Lists of which each pair, or each item, has a property: with one more item, and with other items in place of these.
use Rattle.std.proofs.Common.{◌≡◌, ℕ, zero, suc, ◌+◌, ◌-◌, ◌<◌, ◌≤◌, List, [], ◌∷◌, ◌++◌, map, length, take, drop, get_or, refl, ap, sym, subst, ◌∙◌, add-one, arith, inl, inr}
use Rattle.std.specs.List.{All, AllPairs, Contains, insert}
use Rattle.std.proofs.lemmas.List.{get_or-map, length-map, take-append-drop, take-map, drop-map, map-append}
use Rattle.std.proofs.lemmas.List.Edits.{get_or-insert_below, get_or-insert_at, get_or-insert_above, length-insert}
use Rattle.std.proofs.lemmas.List.Elements.{All-append, All-cons, All-take, All-drop, Contains-append_cases, Contains-append_left, Contains-append_right}

pub below_or_not : (i j : ℕ) (P : Type 0) → (i < j → P) → (j ≤ i → P) → P
below_or_not zero zero P f g = g (omega arith)
below_or_not zero (suc j) P f g = f (omega arith)
below_or_not (suc i) zero P f g = g (omega arith)
below_or_not (suc i) (suc j) P f g = below_or_not i j P (λ h. f (omega arith)) (λ h. g (omega arith))

-- two numbers, in either order or the same
pub three_ways : (i j : ℕ) (P : Type 0) → (i < j → P) → (i ≡ j → P) → (j < i → P) → P
three_ways i j P f g h = below_or_not i j P f (λ a. below_or_not j i P h (λ b. g (omega arith)))

module _ {X : Type 0} where
  -- ---- one more item in the midst

  pub all_insert : (P : X → Type 0) (xs : List X) (i : ℕ) (y : X) → All P xs → P y → All P (insert xs i y)
  all_insert P xs i y a p = All-append P (take i xs) (y ∷ drop i xs) (All-take P i xs a) (All-cons P y (drop i xs) p (All-drop P i xs a))

  here : (xs ys : List X) (y : X) → Contains (xs ++ y ∷ ys) y
  here xs ys y = Contains-append_right xs (y ∷ ys) y (0, omega arith, refl)

  pub contains_itself : (xs : List X) (i : ℕ) (y : X) → Contains (insert xs i y) y
  contains_itself xs i y = here (take i xs) (drop i xs) y

  behind : (y x : X) (ys : List X) → Contains ys x → Contains (y ∷ ys) x
  behind y x ys c = (c.0 + 1, omega (arith, add-one c.0, c.1), rw (add-one c.0) c.2)

  pub contains_insert : (xs : List X) (i : ℕ) (y x : X) → Contains xs x → Contains (insert xs i y) x
  contains_insert xs i y x c =
      elim (Contains-append_cases (take i xs) (drop i xs) x (subst (λ (l : List X). Contains l x) (sym (take-append-drop i xs)) c)) [
        | inl a ↦ Contains-append_left (take i xs) (y ∷ drop i xs) x a
        | inr b ↦ Contains-append_right (take i xs) (y ∷ drop i xs) x (behind y x (drop i xs) b)
      ]

  pub all_pairs_insert : (R : X → X → Type 0) (xs : List X) (i : ℕ) (y : X) → i ≤ length xs → AllPairs R xs → ((k : ℕ) (d : X) → k < i → R (get_or xs k d) y) → ((k : ℕ) (d : X) → i ≤ k → k < length xs → R y (get_or xs k d)) → AllPairs R (insert xs i y)
  all_pairs_insert R xs i y le pairs below above a b d lt within =
      let size : length (insert xs i y) ≡ length xs + 1 = length-insert xs i y le in
      let at_below : (k : ℕ) → k < i → get_or xs k d ≡ get_or (insert xs i y) k d = λ k h. sym (get_or-insert_below xs i y d k h le) in
      let at_above : (k : ℕ) → i < k → get_or xs (k - 1) d ≡ get_or (insert xs i y) k d =
      λ k h. let e : k - 1 + 1 ≡ k = omega arith in sym (get_or-insert_above xs i y d (k - 1) (omega arith) le) ∙ ap (λ (n : ℕ). get_or (insert xs i y) n d) e in
      let at_it : (k : ℕ) → k ≡ i → y ≡ get_or (insert xs i y) k d = λ k e. sym (ap (λ (n : ℕ). get_or (insert xs i y) n d) e ∙ get_or-insert_at xs i y d le) in
      let joined : (u v : X) → u ≡ get_or (insert xs i y) a d → v ≡ get_or (insert xs i y) b d → R u v → R (get_or (insert xs i y) a d) (get_or (insert xs i y) b d) =
      λ u v e f r. subst (λ (w : X). R w (get_or (insert xs i y) b d)) e (subst (λ (w : X). R u w) f r) in
      three_ways a i (R (get_or (insert xs i y) a d) (get_or (insert xs i y) b d))
      (λ la. three_ways b i (R (get_or (insert xs i y) a d) (get_or (insert xs i y) b d))
      (λ lb. joined (get_or xs a d) (get_or xs b d) (at_below a la) (at_below b lb) (pairs a b d lt (omega arith)))
      (λ eb. joined (get_or xs a d) y (at_below a la) (at_it b eb) (below a d la))
      (λ gb. joined (get_or xs a d) (get_or xs (b - 1) d) (at_below a la) (at_above b gb) (pairs a (b - 1) d (omega arith) (omega arith))))
      (λ ea. joined y (get_or xs (b - 1) d) (at_it a ea) (at_above b (omega arith)) (above (b - 1) d (omega arith) (omega arith)))
      (λ ga. joined (get_or xs (a - 1) d) (get_or xs (b - 1) d) (at_above a ga) (at_above b (omega arith)) (pairs (a - 1) (b - 1) d (omega arith) (omega arith)))

  -- ---- other items in place of these

  pub all_pairs_weaker : (P : X → Type 0) (R S : X → X → Type 0) (xs : List X) → All P xs → ((x y : X) → P x → P y → R x y → S x y) → AllPairs R xs → AllPairs S xs
  all_pairs_weaker P R S xs all f pairs i j d lt within = f (get_or xs i d) (get_or xs j d) (all i d (omega arith)) (all j d within) (pairs i j d lt within)

pub all_pairs_map : {X Y : Type 0} (f : X → Y) (R : Y → Y → Type 0) (xs : List X) → AllPairs (λ x y. R (f x) (f y)) xs → AllPairs R (map f xs)
all_pairs_map f R [] pairs i j d lt within = absurd (omega arith)
all_pairs_map f R (x ∷ xs) pairs i j d lt within =
    let n : length (map f (x ∷ xs)) ≡ length (x ∷ xs) = length-map (x ∷ xs) f in
    let a = get_or-map f (x ∷ xs) i x d (omega (arith, n)) in
    let b = get_or-map f (x ∷ xs) j x d (omega (arith, n)) in
    subst (λ u. R u (get_or (map f (x ∷ xs)) j d)) (sym a) (subst (λ v. R (f (get_or (x ∷ xs) i x)) v) (sym b) (pairs i j x lt (omega (arith, n))))

pub map_agree : {X Y : Type 0} (f g : X → Y) (xs : List X) → All (λ x. f x ≡ g x) xs → map f xs ≡ map g xs
map_agree f g [] all = refl
map_agree f g (x ∷ xs) all =
    let tail : map f xs ≡ map g xs = map_agree f g xs (λ i d within. all (suc i) d (omega arith)) in
    ap (λ y. y ∷ map f xs) (all 0 x (omega arith)) ∙ ap (λ ys. g x ∷ ys) tail

pub map_insert : {X Y : Type 0} (f : X → Y) (xs : List X) (i : ℕ) (y : X) → insert (map f xs) i (f y) ≡ map f (insert xs i y)
map_insert f xs i y = grind (arith, take-map, drop-map, map-append)

pub contains_map : (f : ℕ → ℕ) (xs : List ℕ) (p q : ℕ) → f p ≡ q → Contains xs p → Contains (map f xs) q
contains_map f xs p q e c = (c.0, omega (arith, length-map xs f, c.1), get_or-map f xs c.0 p q c.1 ∙ ap f c.2 ∙ e)
