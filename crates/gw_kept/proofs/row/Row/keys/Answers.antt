use Rattle.std.proofs.Common.{arith}
use Rattle.std.proofs.lemmas.List.{take_all, length-map}
use Rattle.gw_kept.proofs.Copied.{copied}
use Rattle.gw_kept.proofs.Rows.{keys_count}
use Rattle.gw_kept.proofs.row.Row.keys.Goals as goal

pub loop-at-preserved : goal.loop-at-preserved
loop-at-preserved c = grind (arith, copied)

pub invariant_of-result : goal.invariant_of-result
invariant_of-result c = grind (arith, take_all, length-map, keys_count)
