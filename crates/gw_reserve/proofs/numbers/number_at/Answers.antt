use Rattle.std.proofs.Common.{arith}
use Rattle.std.proofs.lemmas.List.{get_or-map}
use Rattle.gw_reserve.proofs.Cyclic.{length-cyclic}
use Rattle.gw_reserve.proofs.numbers.number_at.Goals as goal

pub returns-clause-value : goal.returns-clause-value
returns-clause-value c = grind (arith, length-cyclic, get_or-map)
