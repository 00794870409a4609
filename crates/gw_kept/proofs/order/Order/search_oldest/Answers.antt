use Rattle.gw_kept.proofs.order.Order.search_oldest.Goals as goal

pub returns-in_default : goal.returns-in_default
returns-in_default c = λ order at. c.search.ensures.stand order
