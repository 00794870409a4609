use Rattle.std.proofs.Common.{subst}
use Rattle.gw_kept.specs.Pairs.{AreDistinct}
use Rattle.gw_kept.specs.Rows.{Gapped, present, keys_in}
use Rattle.gw_kept.proofs.Orders.{one_place}
use Rattle.gw_kept.proofs.Rows.{distinct_row}
use Rattle.gw_kept.proofs.row.Row.find.Goals as goal

pub returns-clause-distinct : goal.returns-clause-distinct
returns-clause-distinct c =
    let si = c.self.inside in
    subst (λ (g : Gapped). AreDistinct (present g.row)) c.self.view_is
    (distinct_row si.ring.items (λ p q k a b. one_place (keys_in si.ring.items) si.order.first si.order.numbers.items p q k c.self.invariant.1 a b))
