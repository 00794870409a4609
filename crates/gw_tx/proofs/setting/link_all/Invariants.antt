use Rattle.std.proofs.Common.{◌≡◌, drop}
use Rattle.gw_tx.specs.Properties.{linked_by}
use Rattle.gw_tx.proofs.setting.link_all.Given as goal

-- what is left to be linked, on what was linked so far, is all of it
abbrev pub invariant-loop-triple : goal.invariant-loop-triple
invariant-loop-triple l = linked_by (drop l.triple-index l.triples) l.context ≡ linked_by l.triples l.fn.context
