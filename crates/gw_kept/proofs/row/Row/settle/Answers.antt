use Rattle.std.proofs.Common.{arith}
use Rattle.gw_kept.proofs.Rows.{keys_present, keys_some, present_some, whole_if, whole_some}
use Rattle.gw_kept.proofs.row.Row.settle.Goals as goal

pub invariant_of-self : goal.invariant_of-self
invariant_of-self c = grind (arith, present_some, keys_present, keys_some)

pub returns-then-len-clause-kept : goal.returns-then-len-clause-kept
returns-then-len-clause-kept c = grind (arith, present_some)

pub returns-then-len-clause-whole : goal.returns-then-len-clause-whole
returns-then-len-clause-whole c = grind (arith, whole_some)

pub returns-else-len-clause-whole : goal.returns-else-len-clause-whole
returns-else-len-clause-whole c = grind (arith, whole_if)
