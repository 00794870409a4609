use Rattle.std.proofs.Common.{rules}
use Rattle.gw_text.proofs.GroupSound.{group_span}
use Rattle.gw_text.proofs.cursor.Cursor.balanced.Goals as goal

pub returns-clause-span : goal.returns-clause-span
returns-clause-span c = group_span c.args.depth c.args.self.now c.take.result.now c.take.new.self (search rules)
