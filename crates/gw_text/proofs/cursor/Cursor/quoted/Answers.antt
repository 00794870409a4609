use Rattle.std.proofs.Common.{rules}
use Rattle.gw_text.specs.QuotedScan.{quoted_at}
use Rattle.gw_text.specs.declared.fault.ScanFault.TheVariants.{Unexpected}
use Rattle.gw_text.proofs.OctetsScans.{quoted_took, no_quoted}
use Rattle.gw_text.proofs.cursor.Cursor.quoted.Goals as goal

pub returns-in_default-clause-fault : goal.returns-in_default-clause-fault
unfolding quoted_at
returns-in_default-clause-fault c = no_quoted c.args.self.now Unexpected (search rules)

pub returns-clause-span : goal.returns-clause-span
unfolding quoted_at
returns-clause-span c = quoted_took c.args.self.now c.take.result.now c.take.new.self (search rules)
