use Rattle.std.proofs.Common.{◌≡◌, drop}
use Rattle.gw_term.specs.Merge.{each, put_property}
use Rattle.gw_term.proofs.properties.merged_properties.Given as goal

-- what is left does the rest
abbrev pub invariant-loop-property : goal.invariant-loop-property
invariant-loop-property l = each put_property l.sent l.old ≡ each put_property (drop l.property-index l.sent) l.list
