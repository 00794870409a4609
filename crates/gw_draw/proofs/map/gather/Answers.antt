use Rattle.std.proofs.lemmas.Grind.{common_steps}
use Rattle.std.proofs.Common.{arith, ap, ◌≡◌, rules}
use Rattle.std.proofs.lemmas.Result.{IfOk-weaker}
use Rattle.gw_draw.specs.declared.table.View.{View}
use Rattle.gw_draw.specs.Answers.{view_of}
use Rattle.gw_draw.proofs.Places.{gives_each}
use Rattle.gw_draw.proofs.Joined.{popped, allowance_of, first_joined, more_joined}
use Rattle.gw_draw.proofs.map.gather.Goals as goal

pub loop-next-init : goal.loop-next-init
loop-next-init g c =
    let p = popped g.F.Fn c.args._f.now c.args.table c.args.jobs.now c.args.workers c.args.runs.items c.pop.new.self.items c.in-Some.first c.in_ok-seat.field-0 c.requires.each c.in-Some.ensures.items c.in_ok-seat.was in
    let one = allowance_of g.F.Fn c.args._f.now c.args.table c.args.jobs.now c.args.workers c.in_ok-seat.field-0 p.1 in
    let len = c.in-Some.ensures.len in
    let all = c.requires.as_many in
    record {
      joined = first_joined g.F.Fn c.args._f.now c.args.table c.args.jobs.now c.args.workers c.in_ok-seat.field-0 c.in_ok-places.places.items c.place.new.places.items p.1 c.in_ok-places.ensures c.place.ensures;
      count = omega arith;
      each = p.0;
    }

pub join-requires-clause-other : goal.join-requires-clause-other
join-requires-clause-other g c = grind (arith, popped)

pub place-requires-in-Some-pop : goal.place-requires-in-Some-pop
place-requires-in-Some-pop g c =
    let p = popped g.F.Fn c.args._f.now c.args.table c.args.jobs.now c.args.workers c.loop-next.runs.items c.pop-in-loop-next.new.self.items c.in-Some-pop.next c.in_ok-other.field-0 c.loop-next.invariant.each c.in-Some-pop.ensures.items c.in_ok-other.was in
    let len = c.loop-next.invariant.joined.filled.len in
    λ k a l. let inside = (p.1.1.each k a (omega (arith, c.in_ok-other.field-0.answers.ok.0))).inside in omega (arith, c.loop-next.places.ok.0)

pub loop-next-preserved : goal.loop-next-preserved
loop-next-preserved g c =
    let p = popped g.F.Fn c.args._f.now c.args.table c.args.jobs.now c.args.workers c.loop-next.runs.items c.pop-in-loop-next.new.self.items c.in-Some-pop.next c.in_ok-other.field-0 c.loop-next.invariant.each c.in-Some-pop.ensures.items c.in_ok-other.was in
    let one = allowance_of g.F.Fn c.args._f.now c.args.table c.args.jobs.now c.args.workers c.in_ok-other.field-0 p.1 in
    let len = c.in-Some-pop.ensures.len in
    let all = c.loop-next.invariant.count in
    let both : (view_of c.join.new.seat).allowance ≡ _ = ap (λ (v : View). v.allowance) c.join.ensures.both in
    record {
      joined = more_joined g.F.Fn c.args._f.now c.args.table c.args.jobs.now c.args.workers c.loop-next.seat c.join.new.seat c.in_ok-other.field-0 c.loop-next.places.items c.place-in-Some-pop.new.places.items c.loop-next.invariant.joined p.1 c.join.ensures.table c.join.ensures.both c.place-in-Some-pop.ensures;
      count = omega arith;
      each = p.0;
    }

pub unwrapped-requires : goal.unwrapped-requires
unwrapped-requires g c = grind (arith, common_steps)

pub returns : goal.returns
returns g c = search (rules, IfOk-weaker, gives_each)
