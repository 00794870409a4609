use Rattle.std.proofs.lemmas.Grind.{common_steps}
use Rattle.std.proofs.Common.{◌≡◌, Some, None, get_or, sym, ap, ◌∙◌, arith}
use Rattle.std.specs.Option.{option_map}
use Rattle.gw_kept.specs.Pairs.{key_of}
use Rattle.gw_kept.specs.Rows.{keys_in}
use Rattle.gw_kept.proofs.Forgetting.{keys_get}
use Rattle.gw_kept.proofs.Freed.{front_out}
use Rattle.gw_kept.proofs.Orders.{not_found}
use Rattle.gw_kept.proofs.order.Order.remove_pair.Goals as goal

pub returns-in-Ok-clause-order : goal.returns-in-Ok-clause-order
returns-in-Ok-clause-order c = grind (arith, common_steps, front_out)

pub returns-in_default-search_oldest-clause-order : goal.returns-in_default-search_oldest-clause-order
returns-in_default-search_oldest-clause-order c =
    let row = c.args.ring.now.items in
    let at : get_or (keys_in row) 0 None ≡ Some (key_of c.in-Some.oldest.now) = keys_get row 0 ∙ ap (option_map key_of) (sym c.in-Some.ensures) in
    absurd (not_found (keys_in row) c.requires.places (key_of c.in-Some.oldest.now) c.in_default-search_oldest.field-0 c.requires.sorted (c.in_default-search_oldest.ensures c.requires at) 0 at)
