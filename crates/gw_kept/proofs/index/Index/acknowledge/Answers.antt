use Rattle.std.proofs.Common.{refl, ap, ◌∙◌}
use Rattle.gw_kept.specs.Forgotten.{forgotten}
use Rattle.gw_kept.specs.Rows.{kept_in}
use Rattle.gw_kept.proofs.Indexes.{acknowledged}
use Rattle.gw_kept.proofs.index.Index.acknowledge.Goals as goal

pub returns-in-Some-clause-exact : goal.returns-in-Some-clause-exact
returns-in-Some-clause-exact c =
    let r = c.args.removal.now in
    λ requested s h has.
    acknowledged requested c.args.self.now _ s r c.in-Some.row c.forget.new.self h c.in-Some.is (c.forget.ensures ∙ ap (λ m. forgotten (kept_in c.in-Some.row) m c.as_slice.result.now) c.mid.ensures ∙ ap (forgotten (kept_in c.in-Some.row) r.mid) c.as_slice.ensures) refl
