use Rattle.std.proofs.Common.{rules}
use Rattle.std.proofs.lemmas.Fn.{filter_same}
use Rattle.gw_ctx.specs.Places.{joins_others}
use Rattle.gw_ctx.proofs.pairs.drop_pair.Goals as goal

pub returns-clause-items : goal.returns-clause-items
returns-clause-items c = filter_same _ (joins_others c.args.a c.args.b) _ (λ x b t h. search rules) _ _ c.retain.ensures.filtered
