-- Runs of bytes of a class, and what a text begins with (own).
use Rattle.std.specs.Prelude.{◌≡◌, ◌==◌, true, ℕ, suc, Bool, false, if◌then◌else◌, List, [], ◌∷◌, Option, Some, None}
use Rattle.std.specs.List.{list_all}

-- how many bytes at the front are of the class
abbrev pub run_len : (ℕ → Bool) → List ℕ → ℕ
run_len p [] = 0
run_len p (b ∷ bs) = if p b then suc (run_len p bs) else 0

-- the text has a first byte, and that is of the class
abbrev pub begins : (ℕ → Bool) → List ℕ → Bool
begins p [] = false
begins p (b ∷ bs) = p b

-- the first byte, if there is one
abbrev pub first : List ℕ → Option ℕ
first [] = None
first (b ∷ bs) = Some b

-- bytes of the class alone
abbrev pub IsRun : (ℕ → Bool) → List ℕ → Type 0
IsRun p text = list_all p text ≡ true

-- no byte of the class comes next
abbrev pub NoMore : (ℕ → Bool) → List ℕ → Type 0
NoMore p rest = begins p rest ≡ false

-- the class of one byte
abbrev pub is_byte : ℕ → ℕ → Bool
is_byte b c = c == b
