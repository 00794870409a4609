-- Closing all that is open (own), as the choice at each place has it.
use Rattle.std.specs.Prelude.{ℕ, Bool, true, false, List, [], ◌∷◌, length, slice_get, Option, None, Some}
use Rattle.std.specs.List.{range_with_len}
use Rattle.gw_board.specs.Texts.{Text}
use Rattle.gw_table.specs.Maps.{Outcome}
use Rattle.gw_board.specs.Carried.{BurstRequest}
use Rattle.gw_board.specs.Core.{Standing, Pending, Opened, Closed, Place, Job, Core, after_close, after_return}

-- a job that is drawn is closed with its result, where it is so chosen; else, and where it is not drawn, unchanged
abbrev pub job_ended : Core → ℕ → BurstRequest → Job → (chosen : Bool) → Option (Outcome Text) → Core
job_ended s i a j chosen None = after_return s i a j
job_ended s i a j true (Some result) = after_close s i a j result
job_ended s i a j false (Some result) = after_return s i a j

-- a place at which no job is open stays
abbrev pub standing_ended : Core → ℕ → BurstRequest → (chosen : Bool) → Standing → Core
standing_ended s i a chosen Pending = s
standing_ended s i a chosen (Opened j) = job_ended s i a j chosen j.result
standing_ended s i a chosen (Closed reply) = s

abbrev pub place_ended : Core → ℕ → (chosen : Bool) → Option Place → Core
place_ended s i chosen None = s
place_ended s i chosen (Some p) = standing_ended s i p.requested chosen p.standing

abbrev pub places_ended : (ℕ → Bool) → List ℕ → Core → Core
places_ended choice [] s = s
places_ended choice (i ∷ later) s = places_ended choice later (place_ended s i (choice i) (slice_get s.places i))

-- every place
abbrev pub all_ended : (ℕ → Bool) → Core → Core
all_ended choice s = places_ended choice (range_with_len 0 (length s.places)) s
