use Rattle.std.proofs.Common.{◌++◌, false, map, length, sym, ap, ◌∙◌}
use Rattle.gw_kept.specs.Classes.{behind, classes_of, standing_of}
use Rattle.gw_kept.specs.Index.{seen}
use Rattle.gw_kept.proofs.Bursts.{as_seen, goes_on}
use Rattle.gw_kept.proofs.Rises.{begun, turn_at}
use Rattle.gw_kept.proofs.kept.Kept.classify_rising.Goals as goal

pub loop-point-init : goal.loop-point-init
loop-point-init c =
    let k = c.args.self.now in
    record {
      standing = standing_of k;
      turn = begun k c.args.points.now c.len-total.result c.len-total.ensures.value c.len-total.ensures.bounded c.requires.rise;
      so_far = ap (λ classes. classes ++ classes_of k (map (seen false) c.args.points.now)) (c.from-classes.ensures ∙ c.in_ok-with_capacity.ensures.items) ∙ sym (as_seen false k c.args.points.now (sym c.requires.unsaid));
    }

pub loop-point-preserved : goal.loop-point-preserved
loop-point-preserved c =
    let k = c.args.self.now in
    let points = c.args.points.now in
    let inv = c.loop-point.invariant in
    let s = inv.standing in
    let i = c.loop-point.point-index in
    let x = c.point-item.result in
    let found = c.class_in_turn-class.ensures s _ (turn_at k s points i x c.loop-point.total c.loop-point-test.true c.point-item.is inv.turn) in
    record {
      standing = behind k.most (length k.pairs) (seen false x) s;
      turn = found.1;
      so_far = rw c.in_ok-push.ensures.ok
          (goes_on k.most (length k.pairs) false points i x c.loop-point.classes c.class_in_turn-class.result.0 s (classes_of k points) c.loop-point-test.true c.point-item.is inv.so_far found.0);
    }
