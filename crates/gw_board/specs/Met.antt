-- What stands in the way of opening a place (own).
use Rattle.std.specs.Prelude.{◌≡◌, ℕ, ◌<◌, true, false, List, length, take, slice_get, Option, None, Some}
use Rattle.gw_base.specs.declared.key.Key.{Key}
use Rattle.gw_table.specs.Maps.{Maps}
use Rattle.gw_board.specs.Boards.{Seen, is_pending_at, meets_here, IsFirstMet}
use Rattle.gw_board.specs.Carried.{BurstRequest}
use Rattle.gw_board.specs.Core.{Place, pending, meets_any}
use Rattle.gw_board.specs.declared.fault.OpenFault.{OpenFault}
use Rattle.gw_board.specs.declared.fault.OpenFault.TheVariants.{NotPending, Meets, NoMemory}

-- of these places, pending or open, the first that the keys meet
pub record IsFirst (keys : List Key) (m : Maps) (places : List Place) (j : ℕ) : Type 0 where
  pub inside : j < length places
  pub met : meets_here keys m (slice_get places j) ≡ true
  pub first : meets_any keys m (take j places) ≡ false

abbrev pub FindsFirstMet : List Key → Maps → List Place → Option ℕ → Type 0
FindsFirstMet keys m places None = meets_any keys m places ≡ false
FindsFirstMet keys m places (Some j) = IsFirst keys m places j

-- what is requested there, if it is pending
abbrev pub PendsAt : Option Place → Option BurstRequest → Type 0
PendsAt o None = is_pending_at o ≡ false
PendsAt o (Some a) = o ≡ Some (pending a)

-- why the place is not opened
abbrev pub IsRefused : Seen → ℕ → OpenFault → Type 0
IsRefused b i NotPending = is_pending_at (slice_get b.places i) ≡ false
IsRefused b i (Meets j) = IsFirstMet b i j
IsRefused b i NoMemory = Unit {0}
