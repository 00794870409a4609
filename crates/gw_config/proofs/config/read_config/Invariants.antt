use Rattle.std.proofs.Common.{◌≤◌, length, ◌+◌}
use Rattle.gw_config.proofs.Partway.{IsPartway}
use Rattle.gw_config.proofs.config.read_config.Given as goal

abbrev pub invariant-loop-line : goal.invariant-loop-line
invariant-loop-line l = record {
  partway : IsPartway l.text l.rest l.number l.settings l.terms;
  within : l.number + length l.rest ≤ length l.text;
}

abbrev pub decreases-loop-line : goal.decreases-loop-line
decreases-loop-line l = length l.rest
