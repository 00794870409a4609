use Rattle.std.proofs.Common.{◌≡◌, take}
use Rattle.gw_tx.specs.Properties.{linked_names}
use Rattle.gw_tx.proofs.links.linked_names.Given as goal

-- the names so far
abbrev pub invariant-loop-prop : goal.invariant-loop-prop
invariant-loop-prop l = l.names.items ≡ linked_names (take l.prop-index l.props)
