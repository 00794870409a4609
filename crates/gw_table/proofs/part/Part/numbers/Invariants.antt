use Rattle.std.proofs.Common.{◌≡◌, ◌++◌, map, drop}
use Rattle.gw_table.specs.Maps.{number}
use Rattle.gw_table.proofs.Picked.{number_in, picked, has_number}
use Rattle.gw_table.proofs.part.Part.numbers.Given as goal

-- those so far, and those that are left, are all
abbrev pub invariant-loop-key : goal.invariant-loop-key
invariant-loop-key l = l.numbers.items ++ map number (picked number_in (has_number l.self.maps) (drop l.key-index l.key-items)) ≡ map number (picked number_in (has_number l.self.maps) l.key-items)
