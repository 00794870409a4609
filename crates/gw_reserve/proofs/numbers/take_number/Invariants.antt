use Rattle.gw_table.specs.Stored.{maps_of}
use Rattle.std.proofs.Common.{◌≡◌, ◌≤◌, ◌-◌}
use Rattle.gw_reserve.specs.Searches.{numbers_from}
use Rattle.gw_reserve.proofs.numbers.take_number.Given as goal

-- none is free up to here
abbrev pub invariant-loop-rank : goal.invariant-loop-rank
invariant-loop-rank l = record {
  within : l.rank ≤ l.order.limit;
  same : numbers_from (maps_of l.tables) l.order l.rank ≡ numbers_from (maps_of l.tables) l.order l.fn.search.next;
  search : l.search ≡ l.fn.search;
}

abbrev pub decreases-loop-rank : goal.decreases-loop-rank
decreases-loop-rank l = l.order.limit - l.rank
