use Rattle.std.proofs.Common.{arith}
use Rattle.gw_kept.proofs.Found.{found_bytes, not_kept}
use Rattle.gw_kept.proofs.kept.Kept.find.Goals as goal

pub returns-in-Some : goal.returns-in-Some
returns-in-Some c = grind (arith, found_bytes)

pub returns-in-None : goal.returns-in-None
returns-in-None c = grind (arith, not_kept)
