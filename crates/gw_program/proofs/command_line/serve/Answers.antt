use Rattle.std.proofs.Common.{◌≡◌, ◌∙◌, ◌∷◌, ◌||◌, [], Bool, ap, ap₂, codes, false}
use Rattle.std.proofs.lemmas.Result.{IfOk-weaker}
use Rattle.clap.specs.Simple.{App, app_of, app_of_fields, new_app, with_rule}
use Rattle.clap.specs.Walk.{Rule}
use Rattle.std.specs.Prelude.{List}
use Rattle.clap.specs.declared.builder.command.Command.TheViews.{out-Command as fields_of}
use Rattle.gw_program.specs.Commands.{alone, command_of, bursts_rule, controller_rule, file_rule, listen_rule, report_rule, workers_rule}
use Rattle.gw_program.proofs.command_line.serve.Goals as goal

-- `serve` with these arguments
abbrev of_rules : List Rule → App
of_rules rules = alone (command_of (codes "serve") rules)

pub returns-clause-shape : goal.returns-clause-shape
returns-clause-shape c =
    let bare : app_of c.long_about.result ≡ new_app (codes "serve") = ap app_of_fields c.long_about.ensures
    ∙ (ap app_of_fields c.about.ensures ∙ c.new.ensures.app) in
    let one : app_of c.in_ok-arg.field-0 ≡ of_rules (file_rule ∷ []) = c.in_ok-arg.ensures.shape c.file.ensures.own
    ∙ ap₂ with_rule bare c.file.ensures.rule in
    let two : app_of c.in_ok-arg-2.field-0 ≡ of_rules (file_rule ∷ (listen_rule ∷ [])) = c.in_ok-arg-2.ensures.shape
    c.listen.ensures.own ∙ ap₂ with_rule one c.listen.ensures.rule in
    let three : app_of c.in_ok-arg-3.field-0 ≡ of_rules
    (file_rule ∷ (listen_rule ∷ (workers_rule ∷ []))) = c.in_ok-arg-3.ensures.shape c.workers.ensures.own
    ∙ ap₂ with_rule two c.workers.ensures.rule in
    let four : app_of c.in_ok-arg-4.field-0 ≡ of_rules
    (file_rule ∷ (listen_rule ∷ (workers_rule ∷ (bursts_rule ∷ [])))) = c.in_ok-arg-4.ensures.shape
    c.bursts.ensures.own ∙ ap₂ with_rule three c.bursts.ensures.rule in
    let five : app_of c.in_ok-arg-5.field-0 ≡ of_rules
    (file_rule ∷ (listen_rule ∷ (workers_rule ∷ (bursts_rule ∷ (controller_rule ∷ []))))) = c.in_ok-arg-5.ensures.shape c.controller.ensures.own ∙ ap₂ with_rule four c.controller.ensures.rule in
    let six : app_of c.in_ok-arg-6.field-0 ≡ of_rules
    (file_rule ∷ (listen_rule ∷ (workers_rule ∷ (bursts_rule ∷ (controller_rule ∷ (report_rule ∷ [])))))) = c.in_ok-arg-6.ensures.shape c.report.ensures.own ∙ ap₂ with_rule five c.report.ensures.rule in
    IfOk-weaker c.arg-7.result _ _ (λ r h. h.shape c.give_up.ensures.own ∙ ap₂ with_rule six c.give_up.ensures.rule)
    c.arg-7.ensures

pub returns-clause-own : goal.returns-clause-own
returns-clause-own c =
    let bare : (fields_of c.long_about.result).has_globals ≡ false = ap (λ f. f.has_globals) c.long_about.ensures
    ∙ (ap (λ f. f.has_globals) c.about.ensures ∙ c.new.ensures.local) in
    let one : (fields_of c.in_ok-arg.field-0).has_globals ≡ false = c.in_ok-arg.ensures.globals
    ∙ ap₂ (λ (a b : Bool). a || b) bare c.file.ensures.own in
    let two : (fields_of c.in_ok-arg-2.field-0).has_globals ≡ false = c.in_ok-arg-2.ensures.globals
    ∙ ap₂ (λ (a b : Bool). a || b) one c.listen.ensures.own in
    let three : (fields_of c.in_ok-arg-3.field-0).has_globals ≡ false = c.in_ok-arg-3.ensures.globals
    ∙ ap₂ (λ (a b : Bool). a || b) two c.workers.ensures.own in
    let four : (fields_of c.in_ok-arg-4.field-0).has_globals ≡ false = c.in_ok-arg-4.ensures.globals
    ∙ ap₂ (λ (a b : Bool). a || b) three c.bursts.ensures.own in
    let five : (fields_of c.in_ok-arg-5.field-0).has_globals ≡ false = c.in_ok-arg-5.ensures.globals
    ∙ ap₂ (λ (a b : Bool). a || b) four c.controller.ensures.own in
    let six : (fields_of c.in_ok-arg-6.field-0).has_globals ≡ false = c.in_ok-arg-6.ensures.globals
    ∙ ap₂ (λ (a b : Bool). a || b) five c.report.ensures.own in
    IfOk-weaker c.arg-7.result _ _ (λ r h. h.globals ∙ ap₂ (λ (a b : Bool). a || b) six c.give_up.ensures.own)
    c.arg-7.ensures
