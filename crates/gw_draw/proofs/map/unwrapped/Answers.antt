use Rattle.std.proofs.Common.{◌∙◌, ap, ◌∷◌}
use Rattle.gw_draw.proofs.Places.{unwrap_step, some_step}
use Rattle.gw_draw.proofs.map.unwrapped.Goals as goal

pub loop-place-preserved : goal.loop-place-preserved
loop-place-preserved g c =
    let s = c.in-Some.ensures.steps in (
      unwrap_step _ _ _ _ _ _ (s.0 ∙ ap (λ o. o ∷ c.next.new.self.rest.items) c.in-Some-place.is) c.in_ok-push.ensures.items c.loop-place.invariant.0,
      (some_step _ _ _ s.0 c.loop-place.invariant.1).1,
    )
