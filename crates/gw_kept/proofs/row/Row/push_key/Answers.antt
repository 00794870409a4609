use Rattle.std.proofs.lemmas.List.{drop-map}
use Rattle.std.proofs.lemmas.Grind.{common_steps}
use Rattle.std.proofs.Common.{arith}
use Rattle.gw_kept.proofs.Rows.{has_not}
use Rattle.gw_kept.proofs.row.Row.push_key.Goals as goal

pub push-requires : goal.push-requires
push-requires c = grind (arith, has_not)

pub returns-then-not-has-clause-keys : goal.returns-then-not-has-clause-keys
returns-then-not-has-clause-keys c = grind (arith, common_steps, drop-map)
