use Rattle.std.proofs.Common.{◌≡◌, drop}
use Rattle.std.specs.List.{list_any}
use Rattle.gw_text.specs.Tokens.{is_same_word}
use Rattle.gw_desc.specs.Checks.{names_of}
use Rattle.gw_desc.proofs.checks.names.has_name.Given as goal

-- it is among all if it is among those that are left
abbrev pub invariant-loop-property : goal.invariant-loop-property
invariant-loop-property l = list_any (is_same_word l.name) (names_of l.properties) ≡ list_any (is_same_word l.name) (names_of (drop l.property-index l.properties))
