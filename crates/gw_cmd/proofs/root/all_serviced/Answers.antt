use Rattle.std.proofs.Common.{ap, ◌∙◌}
use Rattle.gw_base.specs.declared.key.Key.TheVariants.{Term}
use Rattle.gw_table.specs.Parts.{Parted, PartKeys, holds}
use Rattle.gw_cmd.proofs.OneByOne.{in_at}
use Rattle.gw_cmd.proofs.root.all_serviced.Goals as goal

pub set_service-requires : goal.set_service-requires
set_service-requires c =
    ap (λ (p : Parted). holds p.keys (Term c.name-item.result)) c.seek_term.ensures ∙ ap (λ (k : PartKeys). holds k (Term c.name-item.result)) c.loop-name.invariant.keys
    ∙ c.requires c.name-item.result (in_at c.args.named.now c.loop-name.name-index c.name-item.result c.loop-name-test.true c.name-item.is)
