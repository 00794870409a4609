use Rattle.std.proofs.Common.{rules}
use Rattle.gw_text.specs.Bracket.{is_run_byte}
use Rattle.gw_text.specs.BracketScan.{run_at}
use Rattle.gw_text.proofs.Scanned.{run_found}
use Rattle.gw_text.proofs.cursor.Cursor.run.Goals as goal

pub returns-clause-span : goal.returns-clause-span
unfolding run_at
returns-clause-span c = run_found is_run_byte c.args.self.now c.take.result.now c.take.new.self (search rules)
