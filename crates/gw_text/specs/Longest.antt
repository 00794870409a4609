-- The longest front of a text that has a form (own).
use Rattle.std.specs.Prelude.{◌≡◌, ℕ, ◌≤◌, List, ◌++◌, length}

pub record IsLongest (IsForm : List ℕ → Type 0) (text span rest : List ℕ) : Type 0 where
  pub split : text ≡ span ++ rest
  pub inside : IsForm span
  pub longest : (other left : List ℕ) → text ≡ other ++ left → IsForm other → length other ≤ length span

-- what is left there is left further on than what is left here
abbrev pub IsAhead : (here there : List ℕ) → Type 0
IsAhead here there = (gone : List ℕ) × (here ≡ gone ++ there)
