use Rattle.std.proofs.Common.{rules}
use Rattle.gw_text.specs.declared.fault.ScanFault.TheVariants.{Overflow}
use Rattle.gw_text.specs.Scans.{number_within}
use Rattle.gw_text.proofs.Scanned.{number_found, no_number}
use Rattle.gw_text.proofs.cursor.Cursor.number.Goals as goal

pub returns-then-len-digits-clause-fault : goal.returns-then-len-digits-clause-fault
unfolding number_within
returns-then-len-digits-clause-fault c = no_number c.args.digits c.args.max c.args.self.now Overflow (search rules)

pub returns-in_default-clause-fault : goal.returns-in_default-clause-fault
unfolding number_within
returns-in_default-clause-fault c = no_number c.args.digits c.args.max c.args.self.now Overflow (search rules)

pub returns-clause-span : goal.returns-clause-span
unfolding number_within
returns-clause-span c = number_found c.args.digits c.args.max c.args.self.now c.take.result.now c.take.new.self c.in-Some.value (search rules) (search rules)

pub returns-then-value-max-clause-fault : goal.returns-then-value-max-clause-fault
unfolding number_within
returns-then-value-max-clause-fault c = no_number c.args.digits c.args.max c.args.self.now Overflow (search rules)
