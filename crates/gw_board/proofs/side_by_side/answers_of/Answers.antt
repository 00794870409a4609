use Rattle.std.proofs.Common.{rules, List, subst}
use Rattle.std.specs.List.{AllZip}
use Rattle.gw_board.specs.Chained.{ChainOf, IsChainAnswer}
use Rattle.gw_board.proofs.Beside.{side_by_side}
use Rattle.gw_board.proofs.side_by_side.answers_of.Goals as goal

pub returns : goal.returns
returns g c = subst (λ (l : List ChainOf). AllZip IsChainAnswer l c.in_ok-drawn.drawn.items) c.deref.ensures.value (side_by_side _ _ IsChainAnswer (λ p r t. search rules) _ _ c.in_ok-drawn.ensures)
