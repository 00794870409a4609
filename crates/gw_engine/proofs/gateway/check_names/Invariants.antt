use Rattle.std.proofs.Common.{take}
use Rattle.gw_engine.proofs.Configured.{AreSeen}
use Rattle.gw_engine.proofs.gateway.check_names.Given as goal

-- the names so far were seen, each has its form, and none comes twice
abbrev pub invariant-loop-name : goal.invariant-loop-name
invariant-loop-name l = AreSeen (take l.name-index l.names) l.seen.keys
