-- Texts by their parts, from one part to the next.
use Rattle.std.proofs.Common.{◌≡◌, ℕ, Bool, true, false, List, [], ◌∷◌, ◌++◌, refl, arith}
use Rattle.std.specs.List.{filter, list_any, slice_split}
use Rattle.gw_desc.specs.Fill.{interleaved}

-- no element passes, and so neither does the first one, nor one behind it
pub none_passes : (p : ℕ → Bool) (x : ℕ) (xs : List ℕ) → list_any p (x ∷ xs) ≡ false → (p x ≡ false) × (list_any p xs ≡ false)
none_passes p x xs h = grind arith

-- ---- the first part, and what is behind it

pub parts_next : (p : ℕ → Bool) (part back : List ℕ) (end : ℕ) → list_any p part ≡ false → p end ≡ true → slice_split p (part ++ end ∷ back) ≡ part ∷ slice_split p back
parts_next p [] back end none ends = rw ends refl
parts_next p (b ∷ bs) back end none ends =
    let h = none_passes p b bs none in
    let e : slice_split p (bs ++ end ∷ back) ≡ bs ∷ slice_split p back = parts_next p bs back end h.1 ends in
    rw (h.0, e) refl

pub ends_next : (p : ℕ → Bool) (part back : List ℕ) (end : ℕ) → list_any p part ≡ false → p end ≡ true → filter p (part ++ end ∷ back) ≡ end ∷ filter p back
ends_next p [] back end none ends = rw ends refl
ends_next p (b ∷ bs) back end none ends =
    let h = none_passes p b bs none in
    let e : filter p (bs ++ end ∷ back) ≡ end ∷ filter p back = ends_next p bs back end h.1 ends in
    rw (h.0, e) refl

-- ---- the last part

pub parts_last : (p : ℕ → Bool) (part : List ℕ) → list_any p part ≡ false → slice_split p part ≡ part ∷ []
parts_last p [] none = refl
parts_last p (b ∷ bs) none =
    let h = none_passes p b bs none in
    let e : slice_split p bs ≡ bs ∷ [] = parts_last p bs h.1 in
    rw (h.0, e) refl

pub ends_last : (p : ℕ → Bool) (part : List ℕ) → list_any p part ≡ false → filter p part ≡ []
ends_last p [] none = refl
ends_last p (b ∷ bs) none =
    let h = none_passes p b bs none in
    rw (h.0, ends_last p bs h.1) refl

-- ---- parts laid out again are the text

again : (p : ℕ → Bool) (b : ℕ) (bs : List ℕ) (t : Bool) → p b ≡ t → interleaved (slice_split p bs) (filter p bs) ≡ bs → interleaved (slice_split p (b ∷ bs)) (filter p (b ∷ bs)) ≡ b ∷ bs
again p b bs t e rest = grind arith

pub laid_again : (p : ℕ → Bool) (text : List ℕ) → interleaved (slice_split p text) (filter p text) ≡ text
laid_again p [] = refl
laid_again p (b ∷ bs) = again p b bs (p b) refl (laid_again p bs)
