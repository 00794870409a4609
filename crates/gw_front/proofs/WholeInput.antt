-- An input that was read up to a limit.
use Rattle.std.proofs.Common.{◌≡◌, ℕ, ◌<◌, List, [], ◌++◌, length, take, Option, Some, None, ap, subst, ◌∙◌, arith}
use Rattle.std.specs.Prelude.{IfSome}
use Rattle.std.specs.Option.{option_map}
use Rattle.std.proofs.lemmas.List.{take_all, length-take}

up_to : (limit : ℕ) (input : Option (List ℕ)) (bytes : List ℕ) → IfSome (option_map (take limit) input) (λ xs. bytes ≡ xs) → IfSome input (λ xs. bytes ≡ take limit xs)
up_to limit None bytes h = tt
up_to limit (Some xs) bytes h = h

-- a reader that was read to its end, or up to a limit
pub read_up : (cap limit : ℕ) (source input : Option (List ℕ)) (bytes start : List ℕ) → cap ≡ limit → source ≡ input → start ≡ [] → IfSome (option_map (take cap) source) (λ xs. bytes ≡ start ++ xs) → IfSome input (λ xs. bytes ≡ take limit xs)
read_up cap limit source input bytes start c s b h = up_to limit input bytes
    (subst (λ (o : Option (List ℕ)). IfSome (option_map (take limit) o) (λ xs. bytes ≡ xs)) s
    (subst (λ (n : ℕ). IfSome (option_map (take n) source) (λ xs. bytes ≡ xs)) c (subst (λ (l : List ℕ). IfSome (option_map (take cap) source) (λ xs. bytes ≡ l ++ xs)) b h)))

-- fewer bytes than the limit are all of them
pub whole : (limit : ℕ) (input : Option (List ℕ)) (bytes : List ℕ) → IfSome input (λ text. bytes ≡ take limit text) → length bytes < limit → IfSome input (λ text. bytes ≡ text)
whole limit None bytes h short = tt
whole limit (Some text) bytes h short =
    let e : length bytes ≡ length (take limit text) = ap (λ (l : List ℕ). length l) h in
    h ∙ take_all limit text (omega (arith, length-take limit text))
