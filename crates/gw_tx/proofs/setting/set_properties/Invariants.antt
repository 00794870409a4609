use Rattle.std.proofs.Common.{◌≡◌, drop}
use Rattle.gw_tx.specs.Properties.{set_properties}
use Rattle.gw_tx.proofs.setting.set_properties.Given as goal

-- what is left to be set, on what was set so far, is all of it; the keys stay
abbrev pub invariant-loop-prop : goal.invariant-loop-prop
invariant-loop-prop l = record {
  left : set_properties l.number (drop l.prop-index l.props) l.draft.maps ≡ set_properties l.number l.props l.fn.draft.maps;
  keys : l.draft.keys ≡ l.fn.draft.keys;
}
