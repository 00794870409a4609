-- Lists that are filtered, or made of others, where tests and functions agree at each element.
use Rattle.std.proofs.Common.{◌≡◌, ℕ, ◌<◌, Bool, true, false, cond, List, [], ◌∷◌, length, map, filter, All, None, Some, refl, ap, ◌∙◌, arith}
use Rattle.std.specs.List.{position}
use Rattle.std.specs.List.Retain.{RetainsInTurn}
use Rattle.std.proofs.lemmas.List.Sums.{prefix_len_passes}
use Rattle.std.proofs.lemmas.List.Elements.{All-head, All-tail}

-- the same function of each
pub map_agree : {X Y : Type 0} (f g : X → Y) (xs : List X) → All (λ x. f x ≡ g x) xs → map f xs ≡ map g xs
map_agree f g [] h = refl
map_agree {X} {Y} f g (x ∷ xs) h =
    let one : f x ≡ g x = All-head (λ y. f y ≡ g y) x xs h in
    let rest : map f xs ≡ map g xs = map_agree f g xs (All-tail (λ y. f y ≡ g y) x xs h) in
    cc

-- one function behind another
pub map_through : {X Y Z : Type 0} (g : Y → Z) (h : X → Y) (f : X → Z) (xs : List X) → All (λ x. g (h x) ≡ f x) xs → map g (map h xs) ≡ map f xs
map_through g h f [] e = refl
map_through {X} {Y} {Z} g h f (x ∷ xs) e =
    let one : g (h x) ≡ f x = All-head (λ y. g (h y) ≡ f y) x xs e in
    let rest : map g (map h xs) ≡ map f xs = map_through g h f xs (All-tail (λ y. g (h y) ≡ f y) x xs e) in
    cc

-- where each passes, all stay
pub filter_all : {X : Type 0} (p : X → Bool) (xs : List X) → All (λ x. p x ≡ true) xs → filter p xs ≡ xs
filter_all p [] h = refl
filter_all {X} p (x ∷ xs) h =
    ap (λ (b : Bool). cond b (x ∷ filter p xs) (filter p xs)) (All-head (λ y. p y ≡ true) x xs h) ∙ ap (λ (l : List X). x ∷ l) (filter_all p xs (All-tail (λ y. p y ≡ true) x xs h))

-- to filter by a test of what is made, and by one of what it is made of
filter_step : {X Y : Type 0} (f : X → Y) (x : X) (made : List Y) (kept : List X) (b : Bool) → made ≡ map f kept → cond b (f x ∷ made) made ≡ map f (cond b (x ∷ kept) kept)
filter_step {X} {Y} f x made kept true h = ap (λ (l : List Y). f x ∷ l) h
filter_step f x made kept false h = h

pub filter_through : {X Y : Type 0} (p : Y → Bool) (q : X → Bool) (f : X → Y) (xs : List X) → All (λ x. p (f x) ≡ q x) xs → filter p (map f xs) ≡ map f (filter q xs)
filter_through p q f [] h = refl
filter_through {X} {Y} p q f (x ∷ xs) h =
    let made : List Y = filter p (map f xs) in
    ap (λ (t : Bool). cond t (f x ∷ made) made) (All-head (λ y. p (f y) ≡ q y) x xs h)
    ∙ filter_step f x made (filter q xs) (q x) (filter_through p q f xs (All-tail (λ y. p (f y) ≡ q y) x xs h))

pub place_within : {X : Type 0} (p : X → Bool) (xs : List X) (k : ℕ) → position p xs ≡ Some k → k < length xs
place_within p xs k e = grind arith

pub none_passes : {X : Type 0} (p : X → Bool) (xs : List X) → position p xs ≡ None → All (λ x. p x ≡ false) xs
none_passes p xs e k d h = grind (arith, prefix_len_passes)

-- what is left where each call answers by a function of the element, and changes it by another
pub retained : {S X : Type 0} (R : S → X → Bool → S → X → Type 0) (I : S → Type 0) (test : X → Bool) (change : X → X)
    → ((s : S) (x : X) (b : Bool) (t : S) (y : X) → I s → R s x b t y → (b ≡ test x) × (y ≡ change x) × I t)
    → (s : S) (xs ys : List X) → I s → RetainsInTurn R s xs ys → ys ≡ map change (filter test xs)
retained R I test change says s [] ys i h = h
retained {S} {X} R I test change says s (x ∷ xs) ys i h =
    let said = says s x h.0 h.1 h.2 i h.3 in
    let rest : h.4 ≡ map change (filter test xs) = retained R I test change says h.1 xs h.4 said.2 h.5 in
    h.6 ∙ (λ j. cond (said.0 j) (said.1 j ∷ rest j) (rest j)) ∙ filter_step change x (map change (filter test xs)) (filter test xs) (test x) refl
