use Rattle.std.proofs.Common.{◌≡◌, ◌++◌, false, map, length, drop}
use Rattle.gw_kept.specs.Classes.{Standing, classes_behind, classes_of}
use Rattle.gw_kept.specs.Index.{seen}
use Rattle.gw_kept.specs.Rises.{IsTurn}
use Rattle.gw_kept.proofs.kept.Kept.classify_rising.Given as goal

-- where the burst stands, and the classes of the rest
abbrev pub invariant-loop-point : goal.invariant-loop-point
invariant-loop-point l = record {
  standing : Standing;
  turn : IsTurn l.self standing (drop l.point-index l.points) l.total;
  so_far : l.classes ++ classes_behind l.self.most (length l.self.pairs) standing (map (seen false) (drop l.point-index l.points)) ≡ classes_of l.self l.points;
}
