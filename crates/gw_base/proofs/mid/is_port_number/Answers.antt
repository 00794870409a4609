use Rattle.std.proofs.Common.{arith}
use Rattle.gw_base.proofs.Ports.{next_digit, large}
use Rattle.gw_base.proofs.mid.is_port_number.Goals as goal

pub returns-then-number-gt-PORT_MAX : goal.returns-then-number-gt-PORT_MAX
returns-then-number-gt-PORT_MAX c = large c.args.digits.now c.loop-b.b-index c.loop-b.number c.loop-b.invariant.value c.loop-b-test.true c.requires (omega (arith, c.from.ensures))

pub loop-b-preserved : goal.loop-b-preserved
loop-b-preserved c = record { value = omega (arith, next_digit c.args.digits.now c.loop-b.b-index c.loop-b.number c.loop-b.invariant.value c.loop-b-test.true c.requires, c.from.ensures); small = omega arith }
