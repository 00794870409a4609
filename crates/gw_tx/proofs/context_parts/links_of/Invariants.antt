use Rattle.std.proofs.Common.{◌≡◌, ◌++◌}
use Rattle.gw_tx.proofs.context_parts.links_of.Given as goal

-- what is listed and what is to come
abbrev pub invariant-loop-link : goal.invariant-loop-link
invariant-loop-link l = l.links ++ l.link-iterator ≡ l.context.links
