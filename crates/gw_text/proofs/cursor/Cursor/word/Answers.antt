use Rattle.std.proofs.Common.{rules}
use Rattle.gw_text.specs.Lexical.{is_safe}
use Rattle.gw_text.specs.Scans.{word_at}
use Rattle.gw_text.proofs.Scanned.{run_found}
use Rattle.gw_text.proofs.cursor.Cursor.word.Goals as goal

pub returns-clause-span : goal.returns-clause-span
unfolding word_at
returns-clause-span c = run_found is_safe c.args.self.now c.take.result.now c.take.new.self (search rules)
