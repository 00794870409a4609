use Rattle.gw_table.specs.Stored.{maps_of}
use Rattle.std.proofs.Common.{◌≡◌, ◌++◌, drop}
use Rattle.std.specs.Prelude.{flat_map}
use Rattle.gw_foot.specs.Gathered.{own_keys}
use Rattle.gw_reserve.specs.Owned.{paired_commands}
use Rattle.gw_foot.proofs.gather.add_each_own.Given as goal

-- the keys so far, and then those of the rest
abbrev pub invariant-loop-command : goal.invariant-loop-command
invariant-loop-command l = l.keys.items ++ flat_map (own_keys (maps_of l.tables)) (paired_commands l.left (drop l.command-index l.commands)) ≡ l.initial.keys.items ++ flat_map (own_keys (maps_of l.tables)) (paired_commands l.slots l.commands)
