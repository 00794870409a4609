-- Two lists that have the same items, place by place.
use Rattle.std.proofs.Common.{◌≡◌, ℕ, ◌+◌, ◌<◌, ◌≤◌, List, [], ◌∷◌, ◌++◌, length, take, get_or, ap, sym, ◌∙◌, add-one, arith}
use Rattle.std.proofs.Math.Seq.{take-suc}
use Rattle.std.proofs.lemmas.List.{append-nil, append_assoc, length-append, nil_from_length, take_all}

module _ {X : Type 0} (xs ys : List X) (i : ℕ) where
  -- one item more
  pub goes_on : (left rest : List X) (x y : X) → i < length xs → x ≡ get_or xs i x → take i xs ++ left ≡ ys → left ≡ y ∷ rest → x ≡ y → take (i + 1) xs ++ rest ≡ ys
  goes_on left rest x y h is so first same =
      rw (add-one, take-suc xs i x) (append_assoc (take i xs) (get_or xs i x ∷ []) rest ∙ ap (λ z. take i xs ++ (z ∷ rest)) (sym is ∙ same) ∙ ap (λ l. take i xs ++ l) (sym first) ∙ so)

  -- behind all of them nothing is left, where the lists are as long
  pub ends : (left : List X) → length xs ≤ i → length xs ≡ length ys → take i xs ++ left ≡ ys → xs ≡ ys
  ends left all long so =
      let whole : xs ++ left ≡ ys = ap (λ l. l ++ left) (sym (take_all i xs all)) ∙ so in
      let size : length xs + length left ≡ length ys = sym (length-append xs left) ∙ ap (λ (l : List X). length l) whole in
      let none : left ≡ [] = nil_from_length left (omega (arith, size, long)) in
      sym (append-nil xs) ∙ ap (λ l. xs ++ l) (sym none) ∙ whole
