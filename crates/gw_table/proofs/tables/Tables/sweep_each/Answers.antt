use Rattle.std.proofs.Common.{ap, ◌∙◌}
use Rattle.gw_base.specs.Keys.{has}
use Rattle.gw_table.proofs.Prepared.{has_at}
use Rattle.gw_table.proofs.tables.Tables.sweep_each.Goals as goal

pub sweep_key-requires : goal.sweep_key-requires
sweep_key-requires c =
    c.loop-i.invariant.out c.index-keys-i.result
    ∙ c.requires c.index-keys-i.result (ap (λ x. has c.args.keys.now x) c.index-keys-i.is ∙ has_at c.args.keys.now c.loop-i.i c.index-keys-i.result c.loop-i-test.true)
