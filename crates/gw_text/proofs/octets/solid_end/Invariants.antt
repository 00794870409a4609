use Rattle.std.proofs.Common.{◌≡◌, ◌≤◌, length}
use Rattle.gw_text.specs.OctetsScan.{solid_end}
use Rattle.gw_text.proofs.octets.solid_end.Given as goal

abbrev pub invariant-loop-front : goal.invariant-loop-front
invariant-loop-front l = record { value : solid_end l.front ≡ solid_end l.text; within : length l.front ≤ length l.text }

abbrev pub decreases-loop-front : goal.decreases-loop-front
decreases-loop-front l = length l.front
