-- Lists of names, and their order (own).
use Rattle.std.specs.Prelude.{◌≡◌, ℕ, Bool, false, bytes_eq, List, [], ◌∷◌}
use Rattle.std.specs.Ordering.{nat_cmp}
use Rattle.std.specs.Cmp.Lexicographic.{slice_cmp}
use Rattle.std.specs.List.{list_any}
use Rattle.std.specs.Set.{remove_key}
use Rattle.std.specs.declared.cmp.Ordering.{Ordering}

-- names in the order of their bytes
abbrev pub name_cmp : List ℕ → List ℕ → Ordering
name_cmp = slice_cmp nat_cmp

-- the name is one of these
abbrev pub is_in : List ℕ → List (List ℕ) → Bool
is_in t names = list_any (bytes_eq t) names

-- the others, in their order
abbrev pub without : List ℕ → List (List ℕ) → List (List ℕ)
without t names = remove_key (bytes_eq t) names

-- no name stands twice
abbrev pub NoDoubles : List (List ℕ) → Type 0
NoDoubles [] = Unit {0}
NoDoubles (t ∷ ts) = (is_in t ts ≡ false) × NoDoubles ts
