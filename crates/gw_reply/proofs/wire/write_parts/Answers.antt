use Rattle.std.proofs.Common.{◌∷◌, [], ◌++◌, ap, ◌∙◌, append_assoc, arith}
use Rattle.gw_reply.specs.Lists.{comma}
use Rattle.gw_reply.proofs.Joins.{first_part, part_behind, later_part, one_written}
use Rattle.gw_reply.proofs.wire.write_parts.Goals as goal
use Rattle.gw_reply.proofs.wire.write_parts.Goals.{then-behind+in_ok-push, then-behind-via-then-behind, then-behind-via-else-behind+then-place-gt0, else-behind+else-place-gt0}

pub loop-place-preserved : goal.loop-place-preserved
loop-place-preserved g c =
    let text = g.T.Written.text in
    let parts = c.args.parts.now in
    let i = c.loop-place.place in
    let part = c.index-parts-place.result in
    elim c.if-behind.branch [
      | then-behind+in_ok-push w ↦
          one_written text c.args.behind parts i part c.args.out.now.items c.loop-place.out.items c.write_to.new.out.items (comma ∷ text part) c.loop-place.invariant
          (elim w.then-behind.branch [
            | then-behind-via-then-behind w' ↦ part_behind text c.args.behind parts i part w'.if-behind.true c.loop-place-test.true c.index-parts-place.is
            | then-behind-via-else-behind+then-place-gt0 w' ↦ later_part text c.args.behind parts i part (omega (arith, w'.if-place-gt0.true)) c.loop-place-test.true c.index-parts-place.is
          ])
          (c.in_ok-write_to.ensures ∙ ap (λ v. v.items ++ text part) w.out-is ∙ ap (λ t. t ++ text part) w.in_ok-push.ensures.items ∙ append_assoc c.loop-place.out.items (comma ∷ []) (text part))
      | else-behind+else-place-gt0 w ↦
          one_written text c.args.behind parts i part c.args.out.now.items c.loop-place.out.items c.write_to.new.out.items (text part) c.loop-place.invariant
          (first_part text c.args.behind parts i part w.if-behind.false (omega (arith, w.if-place-gt0.false)) c.loop-place-test.true c.index-parts-place.is)
          (c.in_ok-write_to.ensures ∙ ap (λ v. v.items ++ text part) w.out-is)
    ]
