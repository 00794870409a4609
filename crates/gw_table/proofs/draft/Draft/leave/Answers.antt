use Rattle.std.proofs.Common.{arith}
use Rattle.gw_table.proofs.Leaving.{set_again}
use Rattle.gw_table.proofs.draft.Draft.leave.Goals as goal

pub returns-clause-maps : goal.returns-clause-maps
returns-clause-maps c = grind (arith, set_again)
