use Rattle.std.proofs.Common.{◌≡◌, ◌≤◌, length}
use Rattle.gw_text.specs.BracketScan.{bracket_rest}
use Rattle.gw_text.proofs.bracket.bracket_rest.Given as goal

abbrev pub invariant-loop-left : goal.invariant-loop-left
invariant-loop-left l = record {
  value : bracket_rest l.rest ≡ bracket_rest l.fn.text;
  within : length l.rest ≤ length l.fn.text;
}

abbrev pub decreases-loop-left : goal.decreases-loop-left
decreases-loop-left l = length l.rest
