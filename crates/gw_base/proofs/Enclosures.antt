-- What stands before and behind the first closing byte.
use Rattle.std.proofs.Common.{◌≡◌, ℕ, true, false, ◌==◌, List, [], ◌∷◌, ◌++◌, refl, sym, ap, ◌∙◌, subst, eq-eqb}
use Rattle.std.specs.List.{list_any}
use Rattle.gw_base.specs.Lang.{◌▹◌, IsText}
use Rattle.gw_base.proofs.Booleans.{neither}

-- a text has one first byte of a kind
pub split_once : (c : ℕ) (a b x y : List ℕ) → a ++ c ∷ x ≡ b ++ c ∷ y → list_any (λ z. z == c) a ≡ false → list_any (λ z. z == c) b ≡ false → (a ≡ b) × (x ≡ y)
split_once c [] [] x y e p q = (refl, cc)
split_once c [] (b ∷ bs) x y e p q =
    let same : c ≡ b = cc in
    let off = neither (b == c) (list_any (λ z. z == c) bs) q in
    let on : b == c ≡ true = eq-eqb b c (sym same) in
    absurd (let clash : true ≡ false = sym on ∙ off.0 in cc)
split_once c (a ∷ more) [] x y e p q =
    let same : a ≡ c = cc in
    let off = neither (a == c) (list_any (λ z. z == c) more) p in
    let on : a == c ≡ true = eq-eqb a c same in
    absurd (let clash : true ≡ false = sym on ∙ off.0 in cc)
split_once c (a ∷ more) (b ∷ bs) x y e p q =
    let head : a ≡ b = cc in
    let tails : more ++ c ∷ x ≡ bs ++ c ∷ y = cc in
    let off = neither (a == c) (list_any (λ z. z == c) more) p in
    let out = neither (b == c) (list_any (λ z. z == c) bs) q in
    let rest = split_once c more bs x y tails off.1 out.1 in
    (ap (λ h. h ∷ more) head ∙ ap (λ t. b ∷ t) rest.0, rest.1)

-- a text that a closing byte ends, and what follows it
pub enclosed : (c : ℕ) (P Q : List ℕ → Type 0) (text before behind : List ℕ) → text ≡ before ++ c ∷ behind → P before → Q behind → (P ▹ IsText (c ∷ []) ▹ Q) text
enclosed c P Q text before behind e p q = record { front = before; back = c ∷ behind; split = e; first = p; second = record { front = c ∷ []; back = behind; split = refl; first = refl; second = q } }

-- the parts of such a text, where the byte is not within the first
pub parts_of : (c : ℕ) (P Q : List ℕ → Type 0) (text before behind : List ℕ) → ((body : List ℕ) → P body → list_any (λ z. z == c) body ≡ false)
    → text ≡ before ++ c ∷ behind → list_any (λ z. z == c) before ≡ false → (P ▹ IsText (c ∷ []) ▹ Q) text → P before × Q behind
parts_of c P Q text before behind free e off both =
    let inner = both.second in
    let whole : both.front ++ c ∷ inner.back ≡ before ++ c ∷ behind =
    ap (λ t. both.front ++ t) (sym (inner.split ∙ ap (λ t. t ++ inner.back) inner.first)) ∙ sym both.split ∙ e in
    let same = split_once c both.front before inner.back behind whole (free both.front both.first) off in
    (subst P same.0 both.first, subst Q same.1 inner.second)
