-- Which places may be opened together while nothing is open (own): all that are pending and meet no earlier one that
-- is.
use Rattle.std.specs.Prelude.{◌≡◌, ℕ, ◌<◌, Bool, true, false, ◌&&◌, not, List, [], ◌∷◌, length, take, slice_get, Option, None, Some, filter}
use Rattle.std.specs.List.{list_any, range_with_len}
use Rattle.gw_base.specs.declared.key.Key.{Key}
use Rattle.gw_table.specs.Maps.{Maps}
use Rattle.gw_foot.specs.Meets.{meets}
use Rattle.gw_board.specs.Carried.{BurstRequest, keys_of}
use Rattle.gw_board.specs.Core.{Standing, Pending, Opened, Closed, Place, Core, pending, AreKeysOf, MayOpen, after_open}

abbrev pub is_pending : Standing → Bool
is_pending Pending = true
is_pending (Opened j) = false
is_pending (Closed reply) = false

-- these keys meet those of one of the places that are pending, in the maps as they are
abbrev pub meets_pending : List Key → Maps → List Place → Bool
meets_pending keys m places = list_any (λ p. is_pending p.standing && meets (keys_of p.requested m) keys) places

abbrev pub is_free : Maps → List Place → Option Place → Bool
is_free m earlier None = false
is_free m earlier (Some p) = is_pending p.standing && not (meets_pending (keys_of p.requested m) m earlier)

-- in rising order, all pending places whose keys meet no earlier pending place's
abbrev pub wave : Core → List ℕ
wave s = filter (λ i. is_free s.maps (take i s.places) (slice_get s.places i)) (range_with_len 0 (length s.places))

-- an earlier pending place, which these keys meet
pub record IsMet (s : Core) (keys : List Key) (i j : ℕ) : Type 0 where
  pub earlier : j < i
  pub requested : BurstRequest
  pub pends : slice_get s.places j ≡ Some (pending requested)
  pub met : meets (keys_of requested s.maps) keys ≡ true

-- each of these places may be opened, once those before it in the list are, in whatever order their keys are listed
abbrev pub MayOpenAll : Core → List ℕ → Type 0
MayOpenAll s [] = Unit {0}
MayOpenAll s (i ∷ later) = (a : BurstRequest) × ((keys : List Key) → AreKeysOf a s.maps keys → MayOpen s i a keys × MayOpenAll (after_open s i a keys) later)
