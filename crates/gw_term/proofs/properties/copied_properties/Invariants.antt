use Rattle.std.proofs.Common.{◌≡◌, take}
use Rattle.gw_term.proofs.properties.copied_properties.Given as goal

-- those so far are copied
abbrev pub invariant-loop-property : goal.invariant-loop-property
invariant-loop-property l = l.copy.items ≡ take l.property-index l.properties
