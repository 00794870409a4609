use Rattle.std.proofs.Common.{◌≡◌, ◌++◌, take}
use Rattle.std.specs.List.{flat_map}
use Rattle.gw_tx.specs.Properties.{names_in}
use Rattle.gw_tx.proofs.links.add_triples.Given as goal

-- the names so far
abbrev pub invariant-loop-triple : goal.invariant-loop-triple
invariant-loop-triple l = l.names.items ≡ l.fn.names.items ++ flat_map names_in (take l.triple-index l.triples)
