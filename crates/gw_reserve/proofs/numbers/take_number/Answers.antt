use Rattle.std.proofs.lemmas.Grind.{common_steps}
use Rattle.std.proofs.Common.{arith}
use Rattle.gw_reserve.proofs.Orders.{length-numbers_in_order}
use Rattle.gw_reserve.proofs.Choices.{found, none_left, seen_none}
use Rattle.gw_reserve.proofs.numbers.take_number.Goals as goal

pub returns-then-is_none : goal.returns-then-is_none
returns-then-is_none c = grind (arith, common_steps, seen_none, length-numbers_in_order, found)

pub returns : goal.returns
returns c = grind (arith, common_steps, length-numbers_in_order, none_left)
