use Rattle.std.proofs.Common.{◌≡◌, ◌++◌, take}
use Rattle.std.specs.Prelude.{flat_map}
use Rattle.gw_cmd.specs.Keys.{name_keys}
use Rattle.gw_table.specs.Stored.{maps_of}
use Rattle.gw_foot.proofs.gather.add_linked.Given as goal

-- the keys so far
abbrev pub invariant-loop-name : goal.invariant-loop-name
invariant-loop-name l = l.keys.items ≡ l.initial.keys.items ++ flat_map (λ t. name_keys t (maps_of l.tables)) (take l.name-index l.names)
