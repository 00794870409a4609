-- Whether a wildcard matches one of a list.
use Rattle.std.proofs.Common.{◌≡◌, ℕ, Bool, true, false, List, [], ◌∷◌, refl, ap}
use Rattle.std.specs.Prelude.{◌≢◌, ◌||◌, ◌&&◌, if◌then◌else◌}
use Rattle.std.specs.List.{list_any, filter}
use Rattle.gw_base.specs.declared.term_ref.TermRef.{TermRef}
use Rattle.gw_base.specs.declared.term_ref.TermRef.TheVariants.{Root, All, Under, Choose, Name, Other}
use Rattle.gw_refusal.specs.Requested.{matches, is_some_list}

-- some pass where one passes
pub any_kept : {X : Type 0} (p : X → Bool) (l : List X) → list_any p l ≡ is_some_list (filter p l)
any_kept p [] = refl
any_kept p (x ∷ xs) = by (p x) (any_kept p xs)
  where
    by : (b : Bool) → list_any p xs ≡ is_some_list (filter p xs) → (b || list_any p xs) ≡ is_some_list (if b then x ∷ filter p xs else filter p xs)
    by true h = refl
    by false h = h

-- one of those that pass another test
pub any_of_kept : {X : Type 0} (p q : X → Bool) (l : List X) → list_any (λ x. p x && q x) l ≡ list_any q (filter p l)
any_of_kept p q [] = refl
any_of_kept p q (x ∷ xs) = by (p x) (any_of_kept p q xs)
  where
    by : (b : Bool) → list_any (λ y. p y && q y) xs ≡ list_any q (filter p xs) → ((b && q x) || list_any (λ y. p y && q y) xs) ≡ list_any q (if b then x ∷ filter p xs else filter p xs)
    by true h = ap (λ c. q x || c) h
    by false h = h

pub all_match : (l : List (List ℕ)) → filter (matches All) l ≡ l
all_match [] = refl
all_match (x ∷ xs) = ap (λ (ys : List (List ℕ)). x ∷ ys) (all_match xs)

no_match : (p : List ℕ → Bool) (r : TermRef) (l : List (List ℕ)) → ((t : List ℕ) → matches r t ≡ false) → list_any (λ t. p t && matches r t) l ≡ false
no_match p r [] h = refl
no_match p r (x ∷ xs) h = by (p x) (matches r x) (h x) (no_match p r xs h)
  where
    by : (a b : Bool) → b ≡ false → list_any (λ t. p t && matches r t) xs ≡ false → ((a && b) || list_any (λ t. p t && matches r t) xs) ≡ false
    by true true e h = absurd cc
    by true false e h = h
    by false b e h = h

-- what is no wildcard matches none
pub matches_none : (p : List ℕ → Bool) (r : TermRef) (l : List (List ℕ)) → r ≢ All → ((prefix : List ℕ) → r ≢ Under prefix) → list_any (λ t. p t && matches r t) l ≡ false
matches_none p Root l a u = no_match p Root l (λ t. refl)
matches_none p Choose l a u = no_match p Choose l (λ t. refl)
matches_none p (Name q) l a u = no_match p (Name q) l (λ t. refl)
matches_none p (Other x) l a u = no_match p (Other x) l (λ t. refl)
matches_none p All l a u = absurd (a refl)
matches_none p (Under prefix) l a u = absurd (u prefix refl)
