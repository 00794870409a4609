use Rattle.std.proofs.Common.{arith}
use Rattle.gw_kept.proofs.Rows.{has_found}
use Rattle.gw_kept.proofs.row.Row.has.Goals as goal

pub returns : goal.returns
returns c = grind (arith, has_found)
