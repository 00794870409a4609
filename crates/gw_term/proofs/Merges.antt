-- Merges, from one element to the next.
use Rattle.std.proofs.Common.{◌≡◌, ℕ, ◌+◌, false, List, [], ◌∷◌, ◌++◌, Option, Some, None, bytes_eq, refl}
use Rattle.std.specs.Bool.{Decides}
use Rattle.gw_text.specs.Runs.{begins, is_byte}
use Rattle.gw_term.specs.Merge.{each, and_then}

pub each-append : {S X : Type 0} (step : X → S → Option S) (xs ys : List X) (s : S) → each step (xs ++ ys) s ≡ and_then (each step xs s) (each step ys)
each-append step [] ys s = refl
each-append {S} step (x ∷ xs) ys s = by (step x s) (λ t. each-append step xs ys t)
  where
    by : (first : Option S) → ((t : S) → each step (xs ++ ys) t ≡ and_then (each step xs t) (each step ys))
        → and_then first (each step (xs ++ ys)) ≡ and_then (and_then first (each step xs)) (each step ys)
    by None later = refl
    by (Some t) later = later t

-- ---- the brace that closes a blank group

pub closes_there : (left behind : List ℕ) → left ≡ 125 ∷ behind → Decides (bytes_eq left (125 ∷ [])) (behind ≡ [])
closes_there left [] h = (λ t. refl, λ t. rw h refl)
closes_there left (b ∷ bs) h = (λ t. absurd (let no : bytes_eq left (125 ∷ []) ≡ false = rw h refl in cc), λ none. absurd cc)

pub closes_not : (left : List ℕ) → begins (is_byte 125) left ≡ false → bytes_eq left (125 ∷ []) ≡ false
closes_not [] h = refl
closes_not (b ∷ bs) h = rw h refl
