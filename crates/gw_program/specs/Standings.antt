-- Standard error, and what the program hands to it (own).
use Rattle.std.specs.Prelude.{◌≡◌, ⊤, ℕ, Bool, List, [], ◌∷◌, ◌++◌, Option, None, Some}
use Rattle.std.specs.Bool.{OnTrue}
use Rattle.std.specs.Io.KnownBytes.{Appends, Keeps}

-- How it stands with standard error: what it holds, and which texts were handed to it, in order, each by one call and
-- whole; each where it is known.
pub record Standing : Type 0 where
  pub contents : Option (List ℕ)
  pub handed : Option (List (List ℕ))

-- of neither is anything known
abbrev pub unknown : Standing
unknown = record { contents = None; handed = None }

-- These texts were handed over, in this order, and no others.
abbrev pub Hands : Option (List (List ℕ)) → Option (List (List ℕ)) → List (List ℕ) → Type 0
Hands None after texts = ⊤
Hands (Some xs) None texts = ⊥
Hands (Some xs) (Some ys) texts = ys ≡ xs ++ texts

-- Nothing was handed over, and nothing is written.
pub record IsSilent (before after : Standing) : Type 0 where
  pub handed : Hands before.handed after.handed []
  pub written : Keeps before.contents after.contents

-- This text was handed over, once and whole, and nothing else; where it was taken it is written, and nothing else.
pub record Prints (text : List ℕ) (is_taken : Bool) (before after : Standing) : Type 0 where
  pub handed : Hands before.handed after.handed (text ∷ [])
  pub written : OnTrue is_taken (Appends before.contents after.contents text)
