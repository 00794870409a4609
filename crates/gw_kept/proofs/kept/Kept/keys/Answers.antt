use Rattle.std.proofs.Common.{arith}
use Rattle.gw_kept.proofs.Rows.{same_keys}
use Rattle.gw_kept.proofs.kept.Kept.keys.Goals as goal

pub returns-clause-keys : goal.returns-clause-keys
returns-clause-keys c = grind (arith, same_keys)
