use Rattle.std.proofs.Common.{◌≡◌, None, subst}
use Rattle.gw_kept.specs.declared.entry.RequestKey.{RequestKey}
use Rattle.gw_kept.specs.Pairs.{key_by}
use Rattle.gw_kept.specs.Rows.{keys_in, IsFound}
use Rattle.gw_kept.proofs.Orders.{not_found}
use Rattle.gw_kept.proofs.order.Order.find.Goals as goal

pub returns-in-Err : goal.returns-in-Err
returns-in-Err c =
    let keys = keys_in c.args.ring.now.items in
    let same : key_by c.mid.result.now c.id.result ≡ c.args.key.now = λ i. record { mid = c.mid.ensures i; id = c.id.ensures i } in
    subst (λ (k : RequestKey). IsFound keys k None) same (not_found keys c.requires.places (key_by c.mid.result.now c.id.result) c.in-Err.field-0 c.requires.sorted (c.in-Err.ensures.stand c.requires))
