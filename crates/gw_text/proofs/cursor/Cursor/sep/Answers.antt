use Rattle.std.proofs.Common.{rules}
use Rattle.gw_text.specs.Scans.{sep_at}
use Rattle.gw_text.proofs.Scanned.{sep_found}
use Rattle.gw_text.proofs.cursor.Cursor.sep.Goals as goal

pub returns-clause-span : goal.returns-clause-span
unfolding sep_at
returns-clause-span c = sep_found c.args.self.now c.take.result.now c.take.new.self (search rules)
