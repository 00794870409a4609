-- Names from one to the next, and two places whose names are the same.
use Rattle.std.proofs.lemmas.Grind.{common_steps}
use Rattle.std.proofs.Common.{◌≡◌, ℕ, zero, suc, ◌+◌, ◌<◌, Bool, true, false, ◌||◌, List, [], ◌∷◌, length, drop, get_or, refl, arith, add-one, drop-cons}
use Rattle.std.specs.Bool.{Decides}
use Rattle.std.specs.List.{list_any}
use Rattle.std.proofs.lemmas.Slice.Eq.{bytes_eq-Decides}
use Rattle.gw_text.specs.Tokens.{is_same_word}
use Rattle.gw_desc.specs.declared.descriptor.Property.{Property}
use Rattle.gw_desc.specs.Checks.{names_of}
use Rattle.gw_desc.specs.Twice.{has_same, HasDouble, folded}

-- the element at i, and what is behind it
pub at_place : {T : Type 0} (list : List T) (i : ℕ) (x : T) → i < length list → drop i list ≡ get_or list i x ∷ drop (i + 1) list
at_place list i x h = rw (add-one, drop-cons list i x) refl

-- a test of the names that are left
pub any_next : (test : List ℕ → Bool) (list : List (Property (List ℕ))) (i : ℕ) (p : Property (List ℕ)) → i < length list → p ≡ get_or list i p
    → list_any test (names_of (drop i list)) ≡ (test p.name || list_any test (names_of (drop (i + 1) list)))
any_next test list i p h is = grind (arith, at_place)

-- ---- two places

same_words : (a b : List ℕ) → is_same_word a b ≡ true → folded a ≡ folded b
same_words a b h = (bytes_eq-Decides (folded a) (folded b)).0 h

words_same : (a b : List ℕ) → folded a ≡ folded b → is_same_word a b ≡ true
words_same a b h = (bytes_eq-Decides (folded a) (folded b)).1 h

any_place : (x : List ℕ) (xs : List (List ℕ)) → list_any (is_same_word x) xs ≡ true → (j : ℕ) × (j < length xs) × (folded x ≡ folded (get_or xs j []))
any_place x [] h = absurd cc
any_place x (y ∷ ys) h = by (is_same_word x y) refl h (any_place x ys)
  where
    by : (t : Bool) → is_same_word x y ≡ t → (t || list_any (is_same_word x) ys) ≡ true
        → (list_any (is_same_word x) ys ≡ true → (j : ℕ) × (j < length ys) × (folded x ≡ folded (get_or ys j [])))
        → (j : ℕ) × (j < length (y ∷ ys)) × (folded x ≡ folded (get_or (y ∷ ys) j []))
    by true e k later = (zero, omega arith, same_words x y e)
    by false e k later = let found = later k in (suc found.0, omega (arith, found.1), found.2)

place_any : (x : List ℕ) (xs : List (List ℕ)) (j : ℕ) → j < length xs → folded x ≡ folded (get_or xs j []) → list_any (is_same_word x) xs ≡ true
place_any x xs j h same = grind (arith, common_steps, words_same)

double_at : (names : List (List ℕ)) → has_same is_same_word names ≡ true → HasDouble names
double_at [] h = absurd cc
double_at (x ∷ xs) h = by (list_any (is_same_word x) xs) refl h (double_at xs)
  where
    by : (t : Bool) → list_any (is_same_word x) xs ≡ t → (t || has_same is_same_word xs) ≡ true → (has_same is_same_word xs ≡ true → HasDouble xs) → HasDouble (x ∷ xs)
    by true e k later = let found = any_place x xs e in record { first = zero; second = suc found.0; before = omega arith; within = omega (arith, found.1); same = found.2 }
    by false e k later =
        let found = later k in
        record { first = suc found.first; second = suc found.second; before = omega (arith, found.before); within = omega (arith, found.within); same = found.same }

at_double : (names : List (List ℕ)) (i j : ℕ) → i < j → j < length names → folded (get_or names i []) ≡ folded (get_or names j []) → has_same is_same_word names ≡ true
at_double [] i j before within same = absurd (omega arith)
at_double (x ∷ xs) i zero before within same = absurd (omega arith)
at_double (x ∷ xs) zero (suc j) before within same = rw (place_any x xs j (omega arith) same) refl
at_double (x ∷ xs) (suc i) (suc j) before within same = grind (arith, at_double xs i j (omega arith) (omega arith) same)

pub double_decides : (names : List (List ℕ)) → Decides (has_same is_same_word names) (HasDouble names)
double_decides names = (double_at names, λ d. at_double names d.first d.second d.before d.within d.same)
