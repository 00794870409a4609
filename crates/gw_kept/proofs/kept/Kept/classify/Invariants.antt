use Rattle.std.proofs.Common.{◌≡◌, ◌++◌, map, length, drop}
use Rattle.std.specs.Option.{is_some}
use Rattle.gw_kept.specs.Classes.{Standing, classes_behind, classes_of}
use Rattle.gw_kept.specs.Index.{IsIndex, seen}
use Rattle.gw_kept.proofs.kept.Kept.classify.Given as goal

abbrev pub invariant-loop-point : goal.invariant-loop-point
invariant-loop-point l = record {
  standing : Standing;
  index : IsIndex l.points l.index standing;
  most : l.index.most ≡ l.self.most;
  before : l.index.before ≡ length l.self.pairs;
  left : is_some l.index.left ≡ is_some l.initial.index.left;
  so_far : l.classes ++ classes_behind l.self.most (length l.self.pairs) standing (map (seen (is_some l.initial.index.left)) (drop l.point-index l.points)) ≡ classes_of l.self l.points;
}
