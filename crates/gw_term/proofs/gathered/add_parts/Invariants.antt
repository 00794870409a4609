use Rattle.std.proofs.Common.{◌≡◌, drop}
use Rattle.gw_term.specs.Gathered.{in_turn, with_part}
use Rattle.gw_term.proofs.gathered.add_parts.Given as goal

-- what is left does the rest
abbrev pub invariant-loop-part : goal.invariant-loop-part
invariant-loop-part l = in_turn with_part l.parts l.fn.sent ≡ in_turn with_part (drop l.part-index l.parts) l.sent
