use Rattle.std.proofs.Common.{◌≡◌, ◌<◌, ◌≤◌, length}
use Rattle.gw_text.specs.GroupScan.{group_rest, place}
use Rattle.gw_text.specs.declared.group.Before.TheVariants.{Other}
use Rattle.gw_text.proofs.group.group_rest.Given as goal

abbrev pub invariant-loop-next : goal.invariant-loop-next
invariant-loop-next l = record {
  value : group_rest l.limit l.at l.rest ≡ group_rest l.limit (place 1 Other) l.fn.text;
  some : 0 < l.at.depth;
  within : length l.rest ≤ length l.fn.text;
}

abbrev pub decreases-loop-next : goal.decreases-loop-next
decreases-loop-next l = length l.rest
