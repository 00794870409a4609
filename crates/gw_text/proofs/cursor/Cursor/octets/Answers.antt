use Rattle.std.proofs.Common.{rules, refl, arith}
use Rattle.std.proofs.lemmas.Grind.{common_steps}
use Rattle.gw_text.specs.OctetsScan.{octets_at}
use Rattle.gw_text.specs.declared.fault.ScanFault.TheVariants.{Unexpected}
use Rattle.gw_text.proofs.OctetsScans.{octets_span, no_octets}
use Rattle.gw_text.proofs.cursor.Cursor.octets.Goals as goal

pub returns-in_default-clause-fault : goal.returns-in_default-clause-fault
unfolding octets_at
returns-in_default-clause-fault c = (refl, no_octets c.args.self.now Unexpected (search rules))

pub returns-clause-span : goal.returns-clause-span
unfolding octets_at
returns-clause-span c = octets_span c.args.self.now c.trimmed.result.now c.take.new.self (grind (arith, common_steps))
