use Rattle.std.proofs.Common.{◌≡◌, ℕ, ◌-◌, ◌^◌, ◌<◌, ◌≤◌, max, get_or}
use Rattle.gw_bits.proofs.bits.first_unfilled.Given as goal

-- full up to here
abbrev pub invariant-loop-at : goal.invariant-loop-at
invariant-loop-at l = record {
  behind : l.from ≤ l.at;
  within : l.at ≤ max l.from l.end;
  before : (k : ℕ) → l.from ≤ k → k < l.at → get_or l.words k 0 ≡ 2 ^ 64 - 1;
}

abbrev pub decreases-loop-at : goal.decreases-loop-at
decreases-loop-at l = l.end - l.at
