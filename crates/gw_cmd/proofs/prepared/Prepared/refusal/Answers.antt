use Rattle.std.proofs.Common.{sym, ap, ◌∙◌}
use Rattle.gw_refusal.specs.declared.at.At.{At}
use Rattle.gw_refusal.specs.Forms.{refusal_by_form}
use Rattle.gw_cmd.proofs.prepared.Prepared.refusal.Goals as goal

-- what was found once for each context
pub returns-in-Each-Some : goal.returns-in-Each-Some
returns-in-Each-Some c =
    c.args.self.now.refused c.in-Each-Some.refused c.in-Each-Some.is-1 c.in-Each-Some.field-0-0 ∙ ap (λ (a : At). refusal_by_form a c.args.self.now.command.now) (sym c.in-Each-Some.is-0)
