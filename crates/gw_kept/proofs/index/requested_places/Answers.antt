use Rattle.std.proofs.Common.{sym, ap, ◌∙◌}
use Rattle.std.specs.BTreeMap.{get}
use Rattle.gw_kept.specs.Order.{key_cmp}
use Rattle.gw_kept.specs.Classes.{keys_of, last_place}
use Rattle.gw_kept.specs.declared.point.Point.TheVariants as point
use Rattle.gw_kept.proofs.Indexes.{key_more, no_key_more}
use Rattle.gw_kept.proofs.index.requested_places.Goals as goal
use Rattle.gw_kept.proofs.index.requested_places.Goals.{in-Request+in_ok-insert, in_default}

pub loop-point-preserved : goal.loop-point-preserved
loop-point-preserved c =
    let inv = c.loop-point.invariant in
    let x = c.point-item.result in
    let pairs = keys_of c.args.kept.now in
    elim c.match-point.branch [
      | in-Request+in_ok-insert w ↦ λ q.
          ap (λ m. get key_cmp m q) w.places-is
          ∙ key_more (λ k. get key_cmp c.loop-point.places k) (λ k. get key_cmp w.insert.new.self k) pairs c.args.points.now c.loop-point.point-index x w.get.result w.place.result c.loop-point-test.true c.point-item.is (w.in-Request.is ∙ ap (λ k. point.Request k) (sym w.get.ensures)) (w.place.ensures.place ∙ ap (λ q. last_place q pairs) (sym w.get.ensures)) inv (λ k. w.in_ok-insert.ensures.updates.0 k) q
      | in_default w ↦ λ q.
          ap (λ m. get key_cmp m q) w.places-is
          ∙ no_key_more (λ k. get key_cmp c.loop-point.places k) pairs c.args.points.now c.loop-point.point-index x c.loop-point-test.true c.point-item.is w.in_default.not-Request inv q
    ]
