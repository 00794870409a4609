use Rattle.std.proofs.Common.{arith}
use Rattle.gw_bits.proofs.Words.{none_clear, lowest_within, lowest_is_clear, set_below_lowest}
use Rattle.gw_bits.proofs.bits.first_clear.Goals as goal

pub returns-then-clear-eq0-clause-before : goal.returns-then-clear-eq0-clause-before
returns-then-clear-eq0-clause-before c = none_clear c.args.word c.args.start (omega arith) (omega arith)

pub returns-else-clear-eq0-clause-within : goal.returns-else-clear-eq0-clause-within
returns-else-clear-eq0-clause-within c = omega (arith, lowest_within c.args.word c.args.start (omega arith) c.requires (omega arith))

pub returns-else-clear-eq0-clause-before : goal.returns-else-clear-eq0-clause-before
returns-else-clear-eq0-clause-before c = set_below_lowest c.args.word c.args.start (omega arith) c.requires (omega arith)

pub returns-else-clear-eq0-clause-clear : goal.returns-else-clear-eq0-clause-clear
returns-else-clear-eq0-clause-clear c h = lowest_is_clear c.args.word c.args.start (omega arith) c.requires (omega arith)
