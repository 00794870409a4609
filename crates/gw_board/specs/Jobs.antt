-- Jobs that are handed out, and what came of them (own).
use Rattle.std.specs.Prelude.{◌≡◌, Option, None, Some}
use Rattle.gw_board.specs.Texts.{Text}
use Rattle.gw_reserve.specs.Owned.{paired, AreFreeSlots}
use Rattle.gw_table.specs.Parts.{Parted, Only}
use Rattle.gw_tx.specs.Footprints.{footprint_of, Covers}
use Rattle.gw_board.specs.Boards.{Handed, outcome_of}

abbrev pub part_in : Handed → Parted
part_in h = record { keys = Only h.keys; maps = h.part }

-- its part covers its request, and the slots that this owns are unused there
pub record IsJob (h : Handed) : Type 0 where
  pub covers : Covers (part_in h) (footprint_of (paired h.requested.request h.requested.owned) h.part)
  pub unused : AreFreeSlots h.part h.requested.owned.slots

-- the part with its new entries
abbrev pub new_part : Handed → Parted
new_part h = record { keys = Only h.keys; maps = (outcome_of h).maps }

-- what became of it is what its request does on its part
pub record IsResult (h : Handed) (new : Parted) (answer : Text) : Type 0 where
  pub part : new ≡ new_part h
  pub reply : answer ≡ (outcome_of h).answer

abbrev pub AreOfJob : Handed → Option (Parted × Text) → Type 0
AreOfJob h None = Unit {0}
AreOfJob h (Some new) = IsResult h new.0 new.1
