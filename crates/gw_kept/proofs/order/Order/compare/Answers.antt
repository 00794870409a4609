use Rattle.std.proofs.Common.{sym, ap, ◌∙◌}
use Rattle.std.specs.Cmp.{tied_itself}
use Rattle.std.specs.Option.{option_map, unwrap_or}
use Rattle.gw_kept.specs.Pairs.{key_by, key_of}
use Rattle.gw_kept.specs.Rows.{keys_in, key_in}
use Rattle.gw_kept.specs.Order.{key_cmp, key_total}
use Rattle.gw_kept.proofs.Forgetting.{keys_get}
use Rattle.gw_kept.proofs.order.Order.compare.Goals as goal

pub returns-in-None : goal.returns-in-None
returns-in-None c =
    let row = c.args.ring.now.items in
    let key = key_by c.args.mid.now c.args.id in
    sym (tied_itself key_total key)
    ∙ ap (λ o. key_cmp (unwrap_or (option_map key_of o) key) key) c.in-None.ensures
    ∙ ap (λ k. key_cmp (unwrap_or k key) key) (sym (keys_get row c.place.result))
    ∙ ap (λ p. key_cmp (key_in (keys_in row) p key) key) c.place.ensures
