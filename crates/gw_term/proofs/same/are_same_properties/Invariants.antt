use Rattle.std.proofs.Common.{◌≡◌, ◌++◌, take}
use Rattle.gw_term.proofs.same.are_same_properties.Given as goal

-- those so far are the others so far
abbrev pub invariant-loop-property : goal.invariant-loop-property
invariant-loop-property l = take l.property-index l.properties ++ l.left ≡ l.others
