-- Tables stay well-formed while requests are carried out one after another.
use Rattle.std.proofs.Common.{◌≡◌, List, [], ◌∷◌, map, refl, ap, ◌∙◌}
use Rattle.gw_board.specs.Boards.{Seen, requested_in, begun_board, IsSameBurst}
use Rattle.gw_board.specs.Carried.{carried}
use Rattle.gw_board.specs.Core.{pending}
use Rattle.gw_board.specs.Results.{slots_of}
use Rattle.gw_board.specs.declared.requested.BurstRequest.{BurstRequest}
use Rattle.gw_board.specs.declared.profile.Profile.{Profile}
use Rattle.gw_reserve.specs.Owned.{paired}
use Rattle.gw_table.specs.Maps.{Maps}
use Rattle.gw_table.specs.Stored.{Stored, maps_of}
use Rattle.gw_table.specs.Unused.{owned, AreUnused}
use Rattle.gw_table.specs.WellFormed.{AreWellFormed}
use Rattle.gw_tx.specs.Transactions.{paired_transaction}
use Rattle.gw_tx.proofs.Unowned.{front_unused, paired_later_free, paired_whole}

-- ---- tables stay well-formed

pub stay_whole : (profile : Profile) (requested : List BurstRequest) (m : Maps) → AreWellFormed profile.rules.members m → AreUnused m [] (slots_of requested) → AreWellFormed profile.rules.members (carried profile requested m).maps
stay_whole profile [] m w u = w
stay_whole profile (a ∷ more) m w u =
    stay_whole profile more (paired_transaction profile.rules a.request (paired a.request a.owned) m).maps
    (paired_whole profile.rules a.request a.owned m (front_unused m (owned a.owned.slots) (slots_of more) u) w)
    (paired_later_free profile.rules a.request a.owned m (slots_of more) u)

-- ---- a board from its start to its end

asked_pending : (requested : List BurstRequest) → requested_in (map pending requested) ≡ requested
asked_pending [] = refl
asked_pending (a ∷ more) = ap (λ (l : List BurstRequest). a ∷ l) (asked_pending more)

module _ (profile : Profile) (requested : List BurstRequest) (s : Stored) (b : Seen) (begun : b ≡ begun_board profile requested s) where
  -- whatever was opened and closed since
  pub comes_to : (d : Seen) → IsSameBurst b d → (carried d.profile (requested_in d.places) (maps_of d.start)).maps ≡ (carried profile requested (maps_of s)).maps
  comes_to d same =
      let manners : d.profile ≡ profile = same.profile ∙ ap (λ (x : Seen). x.profile) begun in
      let these : requested_in d.places ≡ requested = same.requested ∙ ap (λ (x : Seen). requested_in x.places) begun ∙ asked_pending requested in
      let start : d.start ≡ s = same.start ∙ ap (λ (x : Seen). x.start) begun in
      λ i. (carried (manners i) (these i) (maps_of (start i))).maps
