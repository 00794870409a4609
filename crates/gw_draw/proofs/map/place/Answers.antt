use Rattle.std.proofs.Common.{arith, ◌∙◌, ap, length, length-set}
use Rattle.gw_draw.proofs.Places.{place_step, inside_step, inside_head}
use Rattle.gw_draw.proofs.map.place.Goals as goal

pub put-requires : goal.put-requires
put-requires g c =
    let s = c.in-Some.ensures.steps in
    let at = inside_head _ _ _ _ s.0 c.loop-number.invariant.3 in
    omega (arith, at, c.loop-number.places.ok.0)

pub loop-number-preserved : goal.loop-number-preserved
loop-number-preserved g c =
    let s = c.in-Some.ensures.steps in (
      tt,
      tt,
      place_step _ _ _ _ _ _ s.0 c.put.ensures c.loop-number.invariant.2,
      inside_step _ _ _ _ _ s.0 (ap length c.put.ensures ∙ length-set _ _ _) c.loop-number.invariant.3,
    )
