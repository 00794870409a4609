use Rattle.std.proofs.Common.{◌≡◌, Option, Some, sym, ap, ◌∙◌}
use Rattle.std.proofs.lemmas.Result.{on_ok_weaker}
use Rattle.gw_ctx.specs.Contexts.{ContextRecord}
use Rattle.gw_table.specs.Maps.{Maps, ctx, put_ctx}
use Rattle.gw_table.proofs.Leaving.{set_again}
use Rattle.gw_tx.specs.Properties.{with_property_if}
use Rattle.gw_tx.proofs.SetProperties.{set_audited}
use Rattle.gw_tx.proofs.setting.set_property.Goals as goal

pub returns-in-ContextAudit-clause-maps : goal.returns-in-ContextAudit-clause-maps
returns-in-ContextAudit-clause-maps c = set_audited c.args.number c.args.prop.now c.in-ContextAudit.field-0 c.args.draft.now.maps c.in-ContextAudit.is

pub returns-clause-maps : goal.returns-clause-maps
returns-clause-maps c =
    let m : Maps = c.args.draft.now.maps in
    let found : Some c.in-Some.context ≡ ctx m c.args.number = sym c.in-Some.is ∙ c.in_ok-context.ensures.context in
    on_ok_weaker c.set_ctx.result
    (λ e. set_again m c.take_ctx.new.self.maps c.set_ctx.new.self.maps c.args.number (Some c.set_in.new.context) c.in_ok-context.ensures.maps e
    ∙ ap (λ (x : ContextRecord). put_ctx m c.args.number (Some x)) c.in_ok-set_in.ensures
    ∙ ap (λ (o : Option ContextRecord). put_ctx m c.args.number (with_property_if c.args.prop.now o)) found)
    c.set_ctx.ensures.maps
