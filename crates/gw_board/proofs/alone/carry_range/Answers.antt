use Rattle.std.proofs.Common.{◌∙◌, arith}
use Rattle.gw_board.proofs.Ranges.{beside_joined}
use Rattle.gw_board.proofs.alone.carry_range.Goals as goal

pub carry_stretch-requires-clause-goes_on : goal.carry_stretch-requires-clause-goes_on
carry_stretch-requires-clause-goes_on g c κs within = let h = c.requires.goes_on in (h.0, c.loop-first.invariant.goes_on h.0 h.1)

pub loop-first-preserved : goal.loop-first-preserved
loop-first-preserved g c =
    let so_far = c.loop-first.invariant in
    let went = c.in_ok-carry_stretch.ensures in
    let after = c.end_of_stretch-end.ensures in
    record {
      from = omega (arith, so_far.from, after.after);
      within = after.within;
      over = went.keys ∙ so_far.over;
      goes_on = λ start h. went.goes_on start (so_far.goes_on start h);
      closed = went.closed;
      beside = beside_joined _ _ _ _ _ _ _ so_far.from after.within so_far.beside went.beside;
      requested = went.requested ∙ so_far.requested;
      len = went.len ∙ so_far.len;
    }
