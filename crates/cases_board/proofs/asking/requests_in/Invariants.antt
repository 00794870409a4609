use Rattle.std.proofs.Common.{◌≡◌, ◌++◌}
use Rattle.gw_board.specs.Results.{slots_of}
use Rattle.gw_reserve.specs.Owners.{free_slots}
use Rattle.gw_reserve.specs.Reservations.{slots_left}
use Rattle.gw_table.specs.Stored.{maps_of}
use Rattle.cases_board.proofs.asking.requests_in.Given as goal

-- what the requests so far own, and what is left, are the slots that were free
abbrev pub invariant-loop-item : goal.invariant-loop-item
invariant-loop-item l = slots_of l.requested.items ++ slots_left (maps_of l.tables) l.reservation ≡ free_slots (maps_of l.tables) 0 l.fn.limits.slots
