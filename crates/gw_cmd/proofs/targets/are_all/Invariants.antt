use Rattle.std.proofs.Common.{◌≡◌, drop}
use Rattle.gw_cmd.proofs.targets.are_all.Given as goal

-- they are the same lists if the rests are
abbrev pub invariant-loop-place : goal.invariant-loop-place
invariant-loop-place l = drop l.place l.members ≡ drop l.place l.named → l.members ≡ l.named
