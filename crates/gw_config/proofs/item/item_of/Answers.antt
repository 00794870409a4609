use Rattle.gw_config.proofs.Values.{no_item}
use Rattle.gw_config.proofs.item.item_of.Goals as goal

pub returns : goal.returns
returns c =
    no_item c.args.line.now (λ h. let t = c.is_skipped.ensures.1 h in absurd cc)
    c.in_default.ensures c.in_default-address_behind.ensures c.in_default-name_behind.ensures
    c.in_default-number_behind.ensures c.in_default-number_behind-2.ensures c.in_default-number_behind-3.ensures c.in_default-number_behind-4.ensures
