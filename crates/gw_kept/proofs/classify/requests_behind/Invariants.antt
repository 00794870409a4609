use Rattle.std.proofs.Common.{◌≡◌, false, drop}
use Rattle.gw_kept.specs.Index.{requests_behind}
use Rattle.gw_kept.proofs.classify.requests_behind.Given as goal

abbrev pub invariant-loop-point : goal.invariant-loop-point
invariant-loop-point l = requests_behind l.acknowledged (drop l.point-index l.points) ≡ requests_behind false l.points
