use Rattle.std.proofs.Common.{◌≡◌, refl, rules}
use Rattle.gw_ctx.specs.Places.{is_off, renumbered}
use Rattle.gw_ctx.specs.contracts.pairs.fn.drop_at.retain_mut as closure
use Rattle.gw_ctx.proofs.Lists.{retained}
use Rattle.gw_ctx.proofs.pairs.drop_at.Goals as goal

pub returns : goal.returns
returns c =
    retained _ (λ f. let l = closure.captures f in (l.last ≡ c.args.last) × (l.gone ≡ c.args.gone)) (is_off c.args.gone) (renumbered c.args.last c.args.gone)
    (λ s x b t y i h. search rules) _ _ _ (refl, refl) c.retain_mut.ensures.filtered
