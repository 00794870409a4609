use Rattle.std.proofs.Common.{sym, ap, ◌∙◌, Option}
use Rattle.std.specs.Option.{unwrap_or}
use Rattle.gw_base.specs.declared.command_words.Service.{Service}
use Rattle.gw_base.specs.declared.ids.CtxNum.{CtxNum}
use Rattle.gw_table.specs.Maps.{term}
use Rattle.gw_cmd.specs.Effects.{refusal_elsewhere}
use Rattle.gw_cmd.proofs.Tasks.{serves_not, serves}
use Rattle.gw_cmd.proofs.effects.serve.Goals as goal

pub returns-in-Some-refusal_elsewhere-clause-gives : goal.returns-in-Some-refusal_elsewhere-clause-gives
returns-in-Some-refusal_elsewhere-clause-gives c = λ rules sent wanted does.
    serves_not rules c.args.place c.args.service sent c.args.target.now c.in-Some.old.now c.args.draft.now.maps wanted does (ap (term c.args.draft.now.maps) (sym c.name-name.ensures) ∙ sym c.in-Some.ensures) c.in-Some-refusal_elsewhere.code
    (ap (λ (p : Option CtxNum). refusal_elsewhere c.args.place p) (sym c.place.ensures) ∙ sym c.refusal_elsewhere.ensures ∙ c.in-Some-refusal_elsewhere.is)

pub returns-clause-gives : goal.returns-clause-gives
returns-clause-gives c = λ rules sent wanted does.
    serves rules c.args.place c.args.service sent c.args.target.now c.in-Some.old.now c.args.draft.now.maps wanted does (ap (term c.args.draft.now.maps) (sym c.name-name.ensures) ∙ sym c.in-Some.ensures) c.set_service.new.self.maps c.unwrap_or-given.result c.new.result
    (ap (λ (p : Option CtxNum). refusal_elsewhere c.args.place p) (sym c.place.ensures) ∙ sym c.refusal_elsewhere.ensures ∙ c.in_default-refusal_elsewhere.is)
    (c.unwrap_or-given.ensures ∙ ap (λ (s : Service). unwrap_or c.args.service s) c.service.ensures) (rw c.name-name.ensures at c.in_ok-set_service.ensures.maps) c.new.ensures
