use Rattle.std.proofs.Common.{arith, rules, ◌+◌, refl}
use Rattle.gw_config.proofs.Partway.{stepped, stopped}
use Rattle.gw_config.proofs.config.read_config.Goals as goal

pub returns-in_err-take : goal.returns-in_err-take
returns-in_err-take c =
    let h = stopped c.args.text.now c.loop-line.rest.now c.in-Some.line.now c.in-Some.behind.now c.loop-line.number (c.loop-line.number + 1) c.loop-line.settings c.loop-line.terms c.in_err-take.field-0.0 c.loop-line.invariant.partway c.in-Some.ensures.lines refl c.in_err-take.ensures.fault in
    search rules

pub loop-line-preserved : goal.loop-line-preserved
loop-line-preserved c = record {
  partway = stepped c.args.text.now c.loop-line.rest.now c.in-Some.line.now c.in-Some.behind.now c.loop-line.number c.loop-line.settings c.take.new.self c.loop-line.terms c.take.new.terms c.loop-line.invariant.partway c.in-Some.ensures.lines c.in_ok-take.ensures.ok;
  within = omega (arith, c.loop-line.invariant.within, c.in-Some.ensures.less);
}
