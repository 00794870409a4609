use Rattle.std.proofs.Common.{take}
use Rattle.gw_front.specs.RecordFaults.{HasNoLineFeed}
use Rattle.gw_front.proofs.header.line_in.Given as goal

-- no line feed is among those passed
abbrev pub invariant-loop-i : goal.invariant-loop-i
invariant-loop-i l = HasNoLineFeed (take l.i l.front)
