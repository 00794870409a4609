-- What one new request owns of what those before it left (own).
use Rattle.std.specs.Prelude.{◌≡◌, List, [], ◌∷◌, ◌++◌, drop, take, Option, None, Some}
use Rattle.gw_board.specs.declared.requested.BurstRequest.{BurstRequest}
use Rattle.gw_msg.specs.declared.message.Request.{Request}
use Rattle.gw_reserve.specs.declared.owned.Owned.{Owned}
use Rattle.gw_reserve.specs.Owned.{paired, with_ids}
use Rattle.gw_reserve.specs.Owners.{ids_of, number_choices, slot_choices, new_cursors}
use Rattle.gw_reserve.specs.Reservations.{Reserving, numbers_left, slots_left}
use Rattle.gw_table.specs.Maps.{Maps}
use Rattle.gw_table.specs.Unused.{owned}
use Rattle.gw_engine.specs.declared.items.Sent.{Sent}
use Rattle.gw_engine.specs.Phases.{sent_of}

-- what was given to one, and what is left then
pub record IsOwned (m : Maps) (r : Request) (v w : Reserving) (o : Owned) : Type 0 where
  pub pairs : paired r o ≡ with_ids r (ids_of r (numbers_left m v) (slots_left m v))
  pub slots_are : owned o.slots ≡ take (slot_choices r) (slots_left m v)
  pub numbers : numbers_left m w ≡ drop (number_choices r) (numbers_left m v)
  pub slots : slots_left m w ≡ drop (slot_choices r) (slots_left m v)
  pub cursors : w.cursors ≡ new_cursors v.cursors (ids_of r (numbers_left m v) (slots_left m v) ∷ [])

-- A new request has one more job. Without one nothing changes.
abbrev pub IsReserved : Maps → Option Sent → (v w : Reserving) → (jobs more : List BurstRequest) → Type 0
IsReserved m None v w jobs more = (w ≡ v) × (more ≡ jobs)
IsReserved m (Some x) v w jobs more = (job : BurstRequest) × (sent_of job ≡ x) × IsOwned m x.request v w job.owned × (more ≡ jobs ++ job ∷ [])
