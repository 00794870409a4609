-- What writing through a buffer does to what is out (own).
use Rattle.std.specs.Prelude.{◌≡◌, ℕ, List, ◌++◌, take, Option}
use Rattle.std.specs.Io.KnownBytes.{Appends}

-- The text goes behind what the buffer held: what is out grew by a front of both, and the buffer holds the rest.
pub record Moves (before : Option (List ℕ)) (held : List ℕ) (after : Option (List ℕ))
    (holds text : List ℕ) : Type 0 where
  pub sent : List ℕ
  pub written : Appends before after sent
  pub all : held ++ text ≡ sent ++ holds

-- what is out grew by a front of what the buffer held and the text
abbrev pub IsFront : Option (List ℕ) → List ℕ → Option (List ℕ) → List ℕ → Type 0
IsFront before held after text = (n : ℕ) × Appends before after (take n (held ++ text))
