-- Requests paired with what is theirs alone (own).
use Rattle.std.specs.Prelude.{◌≡◌, ◌≢◌, ℕ, List, All, Option}
use Rattle.gw_base.specs.declared.ids.CtxNum.{CtxNum}
use Rattle.gw_msg.specs.declared.message.Request.{Request}
use Rattle.gw_table.specs.Maps.{Maps}
use Rattle.gw_table.specs.Unused.{owned}
use Rattle.gw_reserve.specs.Owned.{OwnedAction, AreFreeSlots, paired_actions}

-- The actions of the request have an entry each for a number, and their commands one each for a slot; no two commands
-- own the same slot, and none of the slots has a termination.
pub record OwnsUnused (m : Maps) (r : Request) (owners : List OwnedAction) : Type 0 where
  pub numbers : List (Option CtxNum)
  pub slots : List (Option ℕ)
  pub pairs : owners ≡ paired_actions numbers slots r.actions
  pub unused : AreFreeSlots m slots

-- no slot is in both
abbrev pub OwnOthers : List (Option ℕ) → List (Option ℕ) → Type 0
OwnOthers mine theirs = All (λ t. All (λ s. s ≢ t) (owned mine)) (owned theirs)
