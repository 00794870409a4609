-- Lists of names: who is in them after one was put last or taken out.
use Rattle.std.proofs.lemmas.Grind.{common_steps}
use Rattle.std.proofs.Common.{◌≡◌, ℕ, ◌≤◌, Bool, true, false, cond, ◌⊎◌, inl, inr, List, [], ◌∷◌, ◌++◌, length, bytes_eq, refl, sym, ap, ◌∙◌, arith}
use Rattle.std.specs.Prelude.{◌||◌}
use Rattle.gw_base.specs.NameLists.{is_in, without, NoDoubles}
use Rattle.gw_base.proofs.Booleans.{refuted, neither}
use Rattle.gw_base.proofs.NameTests.{same_name, name_itself}

-- ---- tests of two parts
pub or_left : (a b : Bool) → a ≡ true → (a || b) ≡ true
or_left a b h = grind arith

pub or_right : (a b : Bool) → b ≡ true → (a || b) ≡ true
or_right a b h = grind arith

pub or_cases : (a b : Bool) → (a || b) ≡ true → (a ≡ true) ⊎ (b ≡ true)
or_cases a b h = grind arith

pub either : {A B C : Type 0} → A ⊎ B → (A → C) → (B → C) → C
either (inl a) f g = f a
either (inr b) f g = g b

-- ---- names
pub other_way : (a b : List ℕ) → bytes_eq a b ≡ false → bytes_eq b a ≡ false
other_way a b h = refuted (bytes_eq b a) (λ e. let s : bytes_eq a b ≡ true = name_itself a b (sym (same_name b a e)) in let clash : true ≡ false = sym s ∙ h in cc)

pub itself : (t : List ℕ) → bytes_eq t t ≡ true
itself t = name_itself t t refl

-- ---- who is in a list
pub in_pushed : (q t : List ℕ) (l : List (List ℕ)) → is_in q (l ++ t ∷ []) ≡ true → (is_in q l ≡ true) ⊎ (bytes_eq q t ≡ true)
in_pushed q t l h = grind (arith, common_steps)

pub stays_in_pushed : (q t : List ℕ) (l : List (List ℕ)) → is_in q l ≡ true → is_in q (l ++ t ∷ []) ≡ true
stays_in_pushed q t l h = grind (arith, common_steps)

pub last_in_pushed : (q t : List ℕ) (l : List (List ℕ)) → bytes_eq q t ≡ true → is_in q (l ++ t ∷ []) ≡ true
last_in_pushed q t l h = grind (arith, common_steps)

not_pushed : (x t : List ℕ) (l : List (List ℕ)) → is_in x l ≡ false → bytes_eq x t ≡ false → is_in x (l ++ t ∷ []) ≡ false
not_pushed x t l a b = refuted (is_in x (l ++ t ∷ [])) (λ h. either (in_pushed x t l h) (λ e. let clash : true ≡ false = sym e ∙ a in cc) (λ e. let clash : true ≡ false = sym e ∙ b in cc))

pub pushed : (t : List ℕ) (l : List (List ℕ)) → NoDoubles l → is_in t l ≡ false → NoDoubles (l ++ t ∷ [])
pushed t [] d h = (refl, tt)
pushed t (y ∷ ys) d h = let n = neither (bytes_eq t y) (is_in t ys) h in (not_pushed y t ys d.0 (other_way t y n.0), pushed t ys d.1 n.1)

pub in_without : (t q : List ℕ) (l : List (List ℕ)) → is_in q (without t l) ≡ true → is_in q l ≡ true
in_without t q [] h = h
in_without t q (x ∷ xs) h = grind (arith, in_without t q xs, or_right, or_cases, or_left)

-- the others stay
pub stays_without : (t q : List ℕ) (l : List (List ℕ)) → bytes_eq q t ≡ false → is_in q l ≡ true → is_in q (without t l) ≡ true
stays_without t q [] n h = h
stays_without t q (x ∷ xs) n h = grind (arith, stays_without t q xs n, or_cases, name_itself, same_name, or_left, or_right)

pub dropped : (t : List ℕ) (l : List (List ℕ)) → NoDoubles l → NoDoubles (without t l)
dropped t [] d = tt
dropped t (x ∷ xs) d = grind (arith, dropped t xs d.1, refuted, in_without)

pub gone : (t : List ℕ) (l : List (List ℕ)) → NoDoubles l → is_in t (without t l) ≡ false
gone t [] d = refl
gone t (x ∷ xs) d = kept (bytes_eq t x) refl (gone t xs d.1)
  where
    kept : (b : Bool) → bytes_eq t x ≡ b → is_in t (without t xs) ≡ false → is_in t (cond b xs (x ∷ without t xs)) ≡ false
    kept true e f = ap (λ (y : List ℕ). is_in y xs) (same_name t x e) ∙ d.0
    kept false e f = ap (λ c. c || is_in t (without t xs)) e ∙ f

pub length_without : (t : List ℕ) (l : List (List ℕ)) → length (without t l) ≤ length l
length_without t [] = omega arith
length_without t (x ∷ xs) = grind (arith, length_without t xs)
