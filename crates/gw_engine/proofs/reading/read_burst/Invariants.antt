use Rattle.std.proofs.Common.{take}
use Rattle.std.specs.List.{AllZip}
use Rattle.gw_engine.specs.Bursts.{IsReadAs}
use Rattle.gw_engine.proofs.reading.read_burst.Given as goal

-- what was read so far is what the datagrams so far are read as
abbrev pub invariant-loop-datagram : goal.invariant-loop-datagram
invariant-loop-datagram l = AllZip IsReadAs (take l.datagram-index l.burst) l.messages
