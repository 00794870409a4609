use Rattle.std.proofs.Common.{rules, arith, length}
use Rattle.gw_draw.specs.Answers.{view_of}
use Rattle.gw_draw.proofs.Places.{top-snoc, each_more, view_more, alone_more}
use Rattle.gw_draw.proofs.draw.draw_all.Goals as goal

pub draw-smaller : goal.draw-smaller
draw-smaller g c = grind (arith, top-snoc)

pub draw-preserved : goal.draw-preserved
draw-preserved g c =
    let at = c.draw.invariant in
    record {
      table = search rules;
      drawn = view_more (view_of c.args.seat.now) (view_of c.draw.seat) (view_of c.draw_one-number.new.seat) c.draw.answers.items c.push.new.self.items _ at.drawn c.draw_one-number.ensures.drawn c.in_ok-push.ensures.items;
      jobs_alone = alone_more (length c.args.jobs.now) (view_of c.draw.seat) (view_of c.draw_one-number.new.seat) c.draw_one-number.result c.draw_one-number.ensures.drawn at.jobs_alone c.if-number-jobs.false;
      each = each_more g.F.Fn c.args.f.now c.args.jobs.now c.draw.answers.items c.push.new.self.items _ c.in_ok-push.ensures.items at.each c.carry-answer.ensures;
    }
