use Rattle.gw_table.specs.Stored.{maps_of}
use Rattle.std.proofs.Common.{take, drop}
use Rattle.gw_base.specs.Choose.{is_choose}
use Rattle.gw_reserve.specs.Owned.{is_adding}
use Rattle.gw_reserve.specs.Owners.{chosen, all_commands, all_adding, taken_by, last_number, behind_last}
use Rattle.gw_reserve.specs.Searches.{numbers_from, slots_from, IsSearch}
use Rattle.gw_reserve.proofs.Taken.{Takes}
use Rattle.gw_reserve.proofs.owners.own_all.Given as goal

-- what is owned so far, and what the actions that are left own, is all
abbrev pub invariant-loop-action : goal.invariant-loop-action
invariant-loop-action l = record {
  contexts : Takes (λ a. is_choose a.ctx) last_number l.owned.contexts (drop l.action-index l.actions) (numbers_from (maps_of l.tables) l.numbers l.number_search.next) l.number_search.cursor (taken_by (λ a. is_choose a.ctx) l.actions (numbers_from (maps_of l.tables) l.numbers l.fn.number_search.next)) (drop (chosen l.actions) (numbers_from (maps_of l.tables) l.numbers l.fn.number_search.next)) (last_number l.fn.number_search.cursor (take (chosen l.actions) (numbers_from (maps_of l.tables) l.numbers l.fn.number_search.next)));
  slots : Takes is_adding behind_last l.owned.slots (all_commands (drop l.action-index l.actions)) (slots_from (maps_of l.tables) l.slots l.slot_search.next) l.slot_search.cursor (taken_by is_adding (all_commands l.actions) (slots_from (maps_of l.tables) l.slots l.fn.slot_search.next)) (drop (all_adding l.actions) (slots_from (maps_of l.tables) l.slots l.fn.slot_search.next)) (behind_last l.fn.slot_search.cursor (take (all_adding l.actions) (slots_from (maps_of l.tables) l.slots l.fn.slot_search.next)));
  number_search : IsSearch 65535 l.numbers l.number_search;
  slot_search : IsSearch 4096 l.slots l.slot_search;
}
