-- An item of a list, what is before it and what is behind it.
use Rattle.std.proofs.Common.{◌≡◌, ℕ, zero, suc, List, [], ◌∷◌, ◌++◌, length, take, drop, refl, ap}
use Rattle.std.specs.Prelude.{slice_get, slice_set, Some}

module _ {X : Type 0} where
  pub parts_at : (xs : List X) (i : ℕ) (x : X) → slice_get xs i ≡ Some x → xs ≡ take i xs ++ x ∷ drop (suc i) xs
  parts_at [] i x e = absurd cc
  parts_at (y ∷ ys) zero x e = let same : y ≡ x = cc in ap (λ z. z ∷ ys) same
  parts_at (y ∷ ys) (suc i) x e = ap (λ zs. y ∷ zs) (parts_at ys i x e)

  pub parts_set : (xs : List X) (i : ℕ) (x new : X) → slice_get xs i ≡ Some x → slice_set xs i new ≡ take i xs ++ new ∷ drop (suc i) xs
  parts_set [] i x new e = absurd cc
  parts_set (y ∷ ys) zero x new e = refl
  parts_set (y ∷ ys) (suc i) x new e = ap (λ zs. y ∷ zs) (parts_set ys i x new e)

  pub item_at : (xs ys : List X) (x : X) → slice_get (xs ++ x ∷ ys) (length xs) ≡ Some x
  item_at [] ys x = refl
  item_at (y ∷ xs) ys x = item_at xs ys x

  pub item_set : (xs ys : List X) (x new : X) → slice_set (xs ++ x ∷ ys) (length xs) new ≡ xs ++ new ∷ ys
  item_set [] ys x new = refl
  item_set (y ∷ xs) ys x new = ap (λ zs. y ∷ zs) (item_set xs ys x new)

  pub one_more : (xs ys : List X) (x : X) → xs ++ x ∷ ys ≡ (xs ++ x ∷ []) ++ ys
  one_more [] ys x = refl
  one_more (y ∷ xs) ys x = ap (λ zs. y ∷ zs) (one_more xs ys x)
