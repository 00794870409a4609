-- Places that are executed one after another (own): the first that is not closed, and what stays.
use Rattle.std.specs.Prelude.{◌≡◌, ℕ, Bool, true, false, not, List, take, drop, slice_get, Option, None, Some}
use Rattle.gw_board.specs.Boards.{is_closed, AllClosed}
use Rattle.gw_board.specs.Core.{Place}

-- there is a place, and it is not closed
abbrev pub is_unclosed_at : Option Place → Bool
is_unclosed_at None = false
is_unclosed_at (Some p) = not (is_closed p.standing)

-- it is not closed, and all before it are
pub record IsFirstUnclosed (places : List Place) (i : ℕ) : Type 0 where
  pub here : is_unclosed_at (slice_get places i) ≡ true
  pub before : AllClosed (take i places)

-- the first of them, or none where all are closed
abbrev pub FindsFirst : List Place → Option ℕ → Type 0
FindsFirst places None = AllClosed places
FindsFirst places (Some i) = IsFirstUnclosed places i

-- the places before the first and from the end on are the same
pub record AreSameBeside (first end : ℕ) (before after : List Place) : Type 0 where
  pub front : take first after ≡ take first before
  pub behind : drop end after ≡ drop end before
