use Rattle.gw_table.specs.Stored.{maps_of}
use Rattle.std.proofs.Common.{◌++◌, take, drop}
use Rattle.gw_reserve.specs.Owned.{is_adding}
use Rattle.gw_reserve.specs.Owners.{adding, taken_by, behind_last}
use Rattle.gw_reserve.specs.Searches.{slots_from, IsSearch}
use Rattle.gw_reserve.proofs.Taken.{Takes}
use Rattle.gw_reserve.proofs.slots.own_slots.Given as goal

-- what is owned so far, and what the commands that are left own, is all
abbrev pub invariant-loop-command : goal.invariant-loop-command
invariant-loop-command l = record {
  takes : Takes is_adding behind_last l.slots (drop l.command-index l.commands) (slots_from (maps_of l.tables) l.order l.search.next) l.search.cursor (l.fn.slots ++ taken_by is_adding l.commands (slots_from (maps_of l.tables) l.order l.fn.search.next)) (drop (adding l.commands) (slots_from (maps_of l.tables) l.order l.fn.search.next)) (behind_last l.fn.search.cursor (take (adding l.commands) (slots_from (maps_of l.tables) l.order l.fn.search.next)));
  search : IsSearch 4096 l.order l.search;
}
