use Rattle.std.proofs.Common.{◌≡◌, length, ap, ◌∙◌, arith}
use Rattle.gw_kept.specs.Classes.{standing_of, classes_of}
use Rattle.gw_engine.specs.Phases.{points_of}
use Rattle.gw_engine.proofs.Filling.{as_many, points_length}
use Rattle.gw_engine.proofs.classify.classify.Goals as goal

pub fill-requires : goal.fill-requires
fill-requires c =
    let kept = c.args.kept.now in
    let points = points_of c.args.items.now in
    let are : c.as_slice-3.result.now ≡ classes_of kept points = c.as_slice-3.ensures ∙ c.in_ok-classes.ensures.classes ∙ ap (classes_of kept) (c.as_slice.ensures ∙ c.in_ok-points.ensures) in
    let many : length c.as_slice-3.result.now ≡ length c.args.items.now = ap length are ∙ as_many kept.most (length kept.pairs) (standing_of kept) points ∙ points_length c.args.items.now in
    omega (arith, many)
