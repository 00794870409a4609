use Rattle.std.proofs.Common.{rules}
use Rattle.gw_text.proofs.BracketLaws.{bracket_took}
use Rattle.gw_text.proofs.cursor.Cursor.bracket.Goals as goal

pub returns-clause-span : goal.returns-clause-span
returns-clause-span c = bracket_took c.args.self.now c.take.result.now c.take.new.self (search rules)
