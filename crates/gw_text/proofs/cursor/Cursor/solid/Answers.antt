use Rattle.std.proofs.Common.{rules}
use Rattle.gw_text.specs.Lexical.{is_solid}
use Rattle.gw_text.specs.Scans.{solid_at}
use Rattle.gw_text.proofs.Scanned.{run_found}
use Rattle.gw_text.proofs.cursor.Cursor.solid.Goals as goal

pub returns-clause-span : goal.returns-clause-span
unfolding solid_at
returns-clause-span c = run_found is_solid c.args.self.now c.take.result.now c.take.new.self (search rules)
