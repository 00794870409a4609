-- The replies of a board, taken out one after another.
use Rattle.std.proofs.Common.{◌≡◌, ℕ, ◌+◌, ◌≤◌, List, [], ◌∷◌, ◌++◌, map, length, drop, Some, None, Bor, inl, inr, sym, ap, ◌∙◌, append_assoc, append-nil, length-append}
use Rattle.std.specs.List.{slice_get}
use Rattle.std.proofs.Math.ListN.{drop_of_length-le}
use Rattle.std.proofs.lemmas.List.{map-append}
use Rattle.std.proofs.lemmas.Option.{get_or_from_slice_get, slice_get_within, slice_get_cases}
use Rattle.gw_table.proofs.Folding.{rest_of}

past_end : {X : Type 0} (xs : List X) (i : ℕ) → slice_get xs i ≡ None → length xs ≤ i
past_end xs i none =
    elim (slice_get_cases xs i).1 [
      | inl s ↦ (let found : slice_get xs i ≡ Some s.0 = s.2 in absurd cc)
      | inr e ↦ e.0
    ]

module _ (all : List (List ℕ)) (xs : List (Bor (List ℕ))) (n : ℕ) (is : n ≡ length xs) (so_far : map (λ r. r.now) xs ++ drop (length xs) all ≡ all) where
  pub one_more : (b : Bor (List ℕ)) (ys : List (Bor (List ℕ))) → slice_get all n ≡ Some b.now → ys ≡ xs ++ b ∷ [] → map (λ r. r.now) ys ++ drop (length ys) all ≡ all
  one_more b ys got pushed =
      let i : ℕ = length xs in
      let at : slice_get all i ≡ Some b.now = ap (slice_get all) (sym is) ∙ got in
      let split : drop i all ≡ b.now ∷ drop (i + 1) all = rest_of all i b.now b.now (slice_get_within all i b.now at) (sym (get_or_from_slice_get all i b.now b.now at)) in
      let long : length ys ≡ i + 1 = ap (λ (l : List (Bor (List ℕ))). length l) pushed ∙ length-append xs (b ∷ []) in
      let texts : map (λ r. r.now) ys ≡ map (λ r. r.now) xs ++ b.now ∷ [] = ap (map (λ (r : Bor (List ℕ)). r.now)) pushed ∙ map-append (λ (r : Bor (List ℕ)). r.now) xs (b ∷ []) in
      (λ j. texts j ++ drop (long j) all)
      ∙ append_assoc (map (λ (r : Bor (List ℕ)). r.now) xs) (b.now ∷ []) (drop (i + 1) all)
      ∙ ap (λ (l : List (List ℕ)). map (λ (r : Bor (List ℕ)). r.now) xs ++ l) (sym split)
      ∙ so_far

  pub none_left : slice_get all n ≡ None → map (λ r. r.now) xs ≡ all
  none_left none =
      let past : length all ≤ length xs = past_end all (length xs) (ap (slice_get all) (sym is) ∙ none) in
      sym (append-nil (map (λ (r : Bor (List ℕ)). r.now) xs)) ∙ ap (λ (l : List (List ℕ)). map (λ (r : Bor (List ℕ)). r.now) xs ++ l) (sym (drop_of_length-le all past)) ∙ so_far
