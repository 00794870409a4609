-- A relation between two lists, item by item, so far and with one item more of each.
use Rattle.std.proofs.Common.{◌≡◌, ℕ, ◌+◌, ◌<◌, List, [], ◌∷◌, ◌++◌, length, get_or, take, sym, ap, subst, ◌∙◌}
use Rattle.std.specs.List.{AllZip}
use Rattle.std.proofs.lemmas.List.{take_more}

behind_all : {A B : Type 0} (R : A → B → Type 0) (xs : List A) (ys : List B) (x : A) (y : B) → AllZip R xs ys → R x y → AllZip R (xs ++ x ∷ []) (ys ++ y ∷ [])
behind_all R [] [] x y all r = (r, tt)
behind_all R [] (z ∷ zs) x y all r = absurd all
behind_all R (w ∷ ws) [] x y all r = absurd all
behind_all R (w ∷ ws) (z ∷ zs) x y all r = (all.0, behind_all R ws zs x y all.1 r)

pub one_more : {A B : Type 0} (R : A → B → Type 0) (xs : List A) (ys : List B) (i : ℕ) (x : A) (y : B) → i < length xs → x ≡ get_or xs i x → AllZip R (take i xs) ys → R x y → AllZip R (take (i + 1) xs) (ys ++ y ∷ [])
one_more {A} R xs ys i x y h is all r =
    let front : take (i + 1) xs ≡ take i xs ++ x ∷ [] = take_more xs i x h ∙ ap (λ (z : A). take i xs ++ z ∷ []) (sym is) in
    subst (λ (l : List A). AllZip R l (ys ++ y ∷ [])) (sym front) (behind_all R (take i xs) ys x y all r)
