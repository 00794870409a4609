-- What stands twice in a list (own: RFC 3525, section 7.1, has at most one descriptor of a kind in a command).
use Rattle.std.specs.Prelude.{◌≡◌, ℕ, ◌<◌, Bool, false, ◌||◌, ◌==◌, nat_le, List, [], ◌∷◌, length, map, slice_index_or}
use Rattle.std.specs.Char.{to_ascii_lowercase}
use Rattle.std.specs.List.{list_any, count_by}
use Rattle.gw_text.specs.Tokens.{is_same_word}

-- two elements at least are so
abbrev pub has_two : {T : Type 0} → (T → Bool) → List T → Bool
has_two is_so list = nat_le 2 (count_by is_so list)

-- two elements are the same
abbrev pub has_same : {T : Type 0} → (T → T → Bool) → List T → Bool
has_same same [] = false
has_same same (x ∷ xs) = list_any (same x) xs || has_same same xs

-- a number twice
unfoldable pub has_number_twice : List ℕ → Bool
has_number_twice numbers = has_same (λ a b. a == b) numbers

-- a name twice, in any case
unfoldable pub has_name_twice : List (List ℕ) → Bool
has_name_twice names = has_same is_same_word names

-- ---- where they are

-- the bytes in lower case
abbrev pub folded : List ℕ → List ℕ
folded bytes = map to_ascii_lowercase bytes

-- two places whose names are the same in any case
pub record HasDouble (names : List (List ℕ)) : Type 0 where
  pub first : ℕ
  pub second : ℕ
  pub before : first < second
  pub within : second < length names
  pub same : folded (slice_index_or names first []) ≡ folded (slice_index_or names second [])
