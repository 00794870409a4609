use Rattle.std.proofs.Common.{◌≡◌, ◌∙◌, ap, codes, true, []}
use Rattle.std.proofs.lemmas.Result.{IfOk-weaker}
use Rattle.clap.specs.Words.{App, app_of, new_app}
use Rattle.clap.specs.Simple.{app_of_fields, new_shape, on_top, Shape, with_subcommand}
use Rattle.gw_program.proofs.Asking.{grown}
use Rattle.gw_program.specs.Commands.{answer_command, check_command, replay_command, serve_command}
use Rattle.gw_program.proofs.command_line.command.Goals as goal

abbrev named : Shape
named = record (new_shape (codes "h248gw")) { no_binary_name = true }

abbrev base : App
base = record { top = record named { has_version = true }; subs = [] }

abbrev first : App
first = with_subcommand base answer_command

abbrev second : App
second = with_subcommand first check_command

abbrev third : App
third = with_subcommand second replay_command

pub returns : goal.returns
returns c =
    let new : app_of c.new.result ≡ new_app (codes "h248gw") = c.new.ensures.app in
    let bin : app_of c.in_ok-bin_name.field-0 ≡ new_app (codes "h248gw") = ap app_of_fields c.in_ok-bin_name.ensures.0 ∙ new in
    let bare : app_of c.no_binary_name.result ≡ record { top = named; subs = [] } = ap app_of_fields c.no_binary_name.ensures ∙ ap (on_top (λ (s : Shape). record s { no_binary_name = true })) bin in
    let versioned : app_of c.version.result ≡ base = ap app_of_fields c.version.ensures ∙ ap (on_top (λ (s : Shape). record s { has_version = true })) bare in
    let about : app_of c.about.result ≡ base = ap app_of_fields c.about.ensures ∙ versioned in
    let helped : app_of c.after_help-program.result ≡ base = ap app_of_fields c.after_help-program.ensures ∙ about in
    let one : app_of c.in_ok-program.program ≡ first = grown c.answer.result c.after_help-program.result c.in_ok-program.program base answer_command helped c.answer.ensures.shape c.answer.ensures.own c.in_ok-program.ensures in
    let two : app_of c.in_ok-program-2.program ≡ second = grown c.check.result c.in_ok-program.program c.in_ok-program-2.program first check_command one c.check.ensures.shape c.check.ensures.own c.in_ok-program-2.ensures in
    let three : app_of c.in_ok-program-3.program ≡ third = grown c.replay.result c.in_ok-program-2.program c.in_ok-program-3.program second replay_command two c.replay.ensures.shape c.replay.ensures.own c.in_ok-program-3.ensures in
    IfOk-weaker c.with-4.result _ _ (λ r h. grown c.serve.result c.in_ok-program-3.program r third serve_command three c.serve.ensures.shape c.serve.ensures.own h) c.with-4.ensures
