-- The first line of a text.
use Rattle.std.proofs.Common.{◌≡◌, ℕ, ◌<◌, ◌==◌, false, List, [], ◌∷◌, ◌++◌, length, refl, ap, ◌∙◌, arith, rules}
use Rattle.std.specs.List.{list_any, slice_split, onto_first}
use Rattle.std.specs.Str.Lines.{lines, lines_of_parts, strip_carriage_return}
use Rattle.std.proofs.lemmas.Bool.{or_parts}
use Rattle.std.proofs.lemmas.List.Splits.{slice_split-cons_yes, slice_split-cons_no, length-slice_split}

cut_at : (xs ys : List ℕ) → list_any (λ c. c == 10) xs ≡ false → slice_split (λ (b : ℕ). b == 10) (xs ++ 10 ∷ ys) ≡ xs ∷ slice_split (λ (b : ℕ). b == 10) ys
cut_at [] ys h = slice_split-cons_yes (λ (b : ℕ). b == 10) (10) ys refl
cut_at (x ∷ xs) ys h =
    let free = or_parts (x == 10) (list_any (λ c. c == 10) xs) h in
    slice_split-cons_no (λ (b : ℕ). b == 10) x (xs ++ 10 ∷ ys) free.0 ∙ ap (onto_first x) (cut_at xs ys free.1)

uncut : (xs : List ℕ) → list_any (λ c. c == 10) xs ≡ false → slice_split (λ (b : ℕ). b == 10) xs ≡ xs ∷ []
uncut [] h = refl
uncut (x ∷ xs) h =
    let free = or_parts (x == 10) (list_any (λ c. c == 10) xs) h in
    slice_split-cons_no (λ (b : ℕ). b == 10) x xs free.0 ∙ ap (onto_first x) (uncut xs free.1)

more_parts : (raw : List ℕ) (parts : List (List ℕ)) → 0 < length parts → lines_of_parts (raw ∷ parts) ≡ strip_carriage_return raw ∷ lines_of_parts parts
more_parts raw [] h = absurd (omega arith)
more_parts raw (p ∷ ps) h = refl

last_part : (text : List ℕ) → 0 < length text → lines_of_parts (text ∷ []) ≡ text ∷ []
last_part [] h = absurd (omega arith)
last_part (b ∷ bs) h = search rules

pub ended_line : (text raw behind : List ℕ) → text ≡ raw ++ 10 ∷ behind → list_any (λ c. c == 10) raw ≡ false → lines text ≡ strip_carriage_return raw ∷ lines behind
ended_line text raw behind split free =
    ap lines split
    ∙ ap lines_of_parts (cut_at raw behind free)
    ∙ more_parts raw (slice_split (λ (b : ℕ). b == 10) behind) (omega (arith, length-slice_split (λ (b : ℕ). b == 10) behind))

pub last_line : (text : List ℕ) → 0 < length text → list_any (λ c. c == 10) text ≡ false → lines text ≡ text ∷ []
last_line text some free = ap lines_of_parts (uncut text free) ∙ last_part text some
