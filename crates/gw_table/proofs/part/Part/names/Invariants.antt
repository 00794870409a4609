use Rattle.std.proofs.Common.{◌≡◌, ◌++◌, drop}
use Rattle.gw_table.proofs.Picked.{name_in, picked, has_name}
use Rattle.gw_table.proofs.part.Part.names.Given as goal

-- those so far, and those that are left, are all
abbrev pub invariant-loop-key : goal.invariant-loop-key
invariant-loop-key l = l.names.items ++ picked name_in (has_name l.self.maps) (drop l.key-index l.key-items) ≡ picked name_in (has_name l.self.maps) l.key-items
