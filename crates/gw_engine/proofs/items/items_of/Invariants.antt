use Rattle.std.proofs.Common.{◌≡◌, take}
use Rattle.gw_engine.specs.Phases.{items_of}
use Rattle.gw_engine.proofs.items.items_of.Given as goal

-- the items of the datagrams so far
abbrev pub invariant-loop-datagram : goal.invariant-loop-datagram
invariant-loop-datagram l = l.items ≡ items_of (take l.datagram-index l.messages)
