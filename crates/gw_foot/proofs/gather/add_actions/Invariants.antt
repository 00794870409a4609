use Rattle.gw_table.specs.Stored.{maps_of}
use Rattle.std.proofs.Common.{◌≡◌, ◌++◌, drop}
use Rattle.gw_base.specs.declared.key.Key.{Key}
use Rattle.gw_base.specs.Keys.{has}
use Rattle.gw_foot.specs.Gathered.{all_gathered}
use Rattle.gw_reserve.specs.Owned.{paired_actions}
use Rattle.gw_foot.proofs.gather.add_actions.Given as goal

-- the keys so far, and then those of the rest
abbrev pub invariant-loop-sent : goal.invariant-loop-sent
invariant-loop-sent l = (k : Key) → has (l.keys.items ++ all_gathered (maps_of l.tables) (paired_actions l.numbers_left l.slots_left (drop l.sent-index l.requested))) k ≡ has (l.initial.keys.items ++ all_gathered (maps_of l.tables) (paired_actions l.numbers l.slots l.requested)) k
