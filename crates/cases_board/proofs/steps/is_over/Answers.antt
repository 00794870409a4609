use Rattle.std.proofs.Common.{arith}
use Rattle.cases_board.proofs.Holding.{all_closed}
use Rattle.cases_board.proofs.steps.is_over.Goals as goal

pub returns : goal.returns
returns c = λ _. all_closed c.args.board.now.places (λ k l. c.loop-place.invariant k (let end = c.loop-place-test.false in let count = c.requires in omega arith))
