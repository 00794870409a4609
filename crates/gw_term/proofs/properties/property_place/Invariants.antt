use Rattle.std.proofs.Common.{◌≡◌, ◌+◌, drop}
use Rattle.gw_term.specs.Merge.{property_place}
use Rattle.gw_term.proofs.properties.property_place.Given as goal

-- the place is behind those that are passed
abbrev pub invariant-loop-i : goal.invariant-loop-i
invariant-loop-i l = property_place l.property.name l.list ≡ l.i + property_place l.property.name (drop l.i l.list)
