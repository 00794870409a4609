use Rattle.std.proofs.Common.{◌≡◌, drop}
use Rattle.gw_term.specs.Gathered.{in_turn, with_control}
use Rattle.gw_term.proofs.gathered.add_controls.Given as goal

-- what is left does the rest
abbrev pub invariant-loop-property : goal.invariant-loop-property
invariant-loop-property l = in_turn with_control l.properties l.fn.sent ≡ in_turn with_control (drop l.property-index l.properties) l.sent
