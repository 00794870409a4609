use Rattle.std.proofs.Common.{◌≡◌, drop}
use Rattle.gw_term.specs.Gathered.{in_turn, with_state}
use Rattle.gw_term.proofs.gathered.SentMedia.add_states.Given as goal

-- what is left does the rest
abbrev pub invariant-loop-property : goal.invariant-loop-property
invariant-loop-property l = in_turn with_state l.properties l.fn.self ≡ in_turn with_state (drop l.property-index l.properties) l.self
