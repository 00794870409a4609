use Rattle.std.proofs.Common.{◌-◌, length}
use Rattle.gw_text.proofs.Ahead.{further_on}
use Rattle.gw_text.proofs.cursor.Cursor.leave.Goals as goal

pub returns-clause-ahead : goal.returns-clause-ahead
returns-clause-ahead c = further_on c.args.self.now (length c.self.inside.rest.now - c.args.left) c.take.new.self c.take.ensures.rest
