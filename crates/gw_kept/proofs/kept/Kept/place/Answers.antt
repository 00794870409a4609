use Rattle.std.proofs.Common.{arith}
use Rattle.gw_kept.proofs.Rows.{whole_place}
use Rattle.gw_kept.proofs.kept.Kept.place.Goals as goal

pub returns-clause-place : goal.returns-clause-place
returns-clause-place c = grind (arith, whole_place)
