-- What a test of two parts tells of each, and of the bytes of a class.
use Rattle.std.proofs.Common.{◌≡◌, ℕ, ◌<◌, Bool, true, false, ◌&&◌, ◌||◌, ◌==◌, List, [], ◌∷◌, length, get_or, refl, sym, ap, ◌∙◌}
use Rattle.std.specs.List.{list_all, list_any}
use Rattle.std.proofs.lemmas.Bool.{ne_eqb}
use Rattle.std.proofs.lemmas.List.Folds.{list_all_at}

pub both : (a b : Bool) → a && b ≡ true → (a ≡ true) × (b ≡ true)
both true b e = (refl, e)
both false b e = absurd cc

pub neither : (a b : Bool) → a || b ≡ false → (a ≡ false) × (b ≡ false)
neither true b e = absurd cc
neither false b e = (refl, e)

-- a test is false where true leads to nothing
pub refuted : (a : Bool) → (a ≡ true → ⊥) → a ≡ false
refuted true h = absurd (h refl)
refuted false h = refl

-- a byte of a class is none that is not in it
pub other_byte : (p : ℕ → Bool) (b c : ℕ) → p b ≡ true → p c ≡ false → b == c ≡ false
other_byte p b c h k = ne_eqb b c (λ e. let clash : true ≡ false = sym h ∙ ap p e ∙ k in absurd cc)

-- such a byte is not among those of the class
pub not_among : (p : ℕ → Bool) (c : ℕ) (bytes : List ℕ) → p c ≡ false → list_all p bytes ≡ true → list_any (λ z. z == c) bytes ≡ false
not_among p c [] h e = refl
not_among p c (b ∷ bs) h e =
    let parts = both (p b) (list_all p bs) e in
    ap (λ t. t || list_any (λ z. z == c) bs) (other_byte p b c parts.0 h) ∙ not_among p c bs h parts.1

-- a byte among those of a class is of the class
pub each_at : (p : ℕ → Bool) (bytes : List ℕ) (i : ℕ) → i < length bytes → list_all p bytes ≡ true → p (get_or bytes i 0) ≡ true
each_at p bytes i h e = each_at_by (p (get_or bytes i 0)) (λ f. sym e ∙ list_all_at p bytes i 0 h f)
  where
    each_at_by : (b : Bool) → (b ≡ false → true ≡ false) → b ≡ true
    each_at_by true g = refl
    each_at_by false g = absurd (let clash : true ≡ false = g refl in cc)
