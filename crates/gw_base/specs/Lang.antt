-- Languages of texts, and texts of two forms, one behind the other (concatenation and strings, RFC 2234, as RFC 3525,
-- Annex B.2, uses them).
use Rattle.std.specs.Prelude.{◌≡◌, ◌⊎◌, ℕ, List, [], ◌++◌, map, Option, Some, None}
use Rattle.std.specs.Char.{to_ascii_lowercase}

-- a text of the one form, and behind it one of the other
pub record Both (P Q : List ℕ → Type 0) (text : List ℕ) : Type 0 where
  pub front : List ℕ
  pub back : List ℕ
  pub split : text ≡ front ++ back
  pub first : P front
  pub second : Q back

-- P ▹ Q: concatenation, as in the grammar
infixr 20 ◌▹◌
abbrev pub ◌▹◌ : (List ℕ → Type 0) → (List ℕ → Type 0) → List ℕ → Type 0
(P ▹ Q) text = Both P Q text

-- [P]: a text of the form, or nothing
abbrev pub Optional : (List ℕ → Type 0) → List ℕ → Type 0
Optional P text = (text ≡ []) ⊎ P text

-- the same of a form with values: a value, or none and nothing
abbrev pub OptionalOf : {V : Type 0} → (V → List ℕ → Type 0) → Option V → List ℕ → Type 0
OptionalOf Form None text = text ≡ []
OptionalOf Form (Some v) text = Form v text

-- these bytes and no others
abbrev pub IsText : List ℕ → List ℕ → Type 0
IsText bytes text = text ≡ bytes

-- these bytes in any case
abbrev pub IsInAnyCase : List ℕ → List ℕ → Type 0
IsInAnyCase bytes text = map to_ascii_lowercase text ≡ map to_ascii_lowercase bytes
