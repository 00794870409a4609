use Rattle.std.proofs.Common.{Bool, [], ◌∷◌, ap, sym, ◌∙◌}
use Rattle.std.specs.Prelude.{if◌then◌else◌}
use Rattle.gw_reply.specs.declared.writer.ReplyWriter.TheVariants.{TooLong}
use Rattle.gw_reply.specs.declared.reply.CommandReply.{CommandReply}
use Rattle.gw_table.specs.declared.attempts.Attempts.{Attempts}
use Rattle.gw_table.specs.Maps.{Outcome}
use Rattle.gw_refusal.specs.Targets.{targets}
use Rattle.gw_cmd.specs.declared.outcome.CmdOutcome.{CmdOutcome}
use Rattle.gw_cmd.specs.Commands.{reply, on_targets, first_error, outcome_of}
use Rattle.gw_cmd.specs.Tasks.{task_place}
use Rattle.gw_cmd.specs.Written.{outcome_behind, seen}
use Rattle.gw_cmd.proofs.OneByOne.{all_in}
use Rattle.gw_cmd.proofs.Tasks.{is_task}
use Rattle.gw_cmd.proofs.execute.on_names.Goals as goal

pub returns-then-has_one_reply-clause-answer : goal.returns-then-has_one_reply-clause-answer
returns-then-has_one_reply-clause-answer c =
    let a = c.args in
    let p = a.prepared.now in
    let is = all_in p.rules.now a.execution.at p.command.now (task_place a.execution.task) a.named.now a.draft.now.maps (is_task a.execution.at p.command.now a.execution.task c.requires.allowed).place c.requires.named in
    c.outcome_of_all.ensures TooLong (on_targets p.rules.now a.execution.at p.command.now (targets a.execution.at p.command.now a.draft.now.maps) a.draft.now.maps).answer.answers
    (c.in_ok-seen.ensures.answer ∙ ap (λ (o : Outcome (Attempts Unit CommandReply)). seen TooLong o.answer.answers) is)

pub returns-clause-answer : goal.returns-clause-answer
returns-clause-answer c =
    let a = c.args in
    let p = a.prepared.now in
    let is = all_in p.rules.now a.execution.at p.command.now (task_place a.execution.task) a.named.now a.draft.now.maps (is_task a.execution.at p.command.now a.execution.task c.requires.allowed).place c.requires.named in
    let sent = p.command.now in
    let all = on_targets p.rules.now a.execution.at sent (targets a.execution.at sent a.draft.now.maps) a.draft.now.maps in
    let by : Bool → CmdOutcome = λ b. record (outcome_of a.execution.at all.answer.answers) { replies = if b then reply sent sent.term (first_error all.answer.answers) ∷ [] else all.answer.answers } in
    c.outcome_of.ensures a.writer all.answer.answers (c.in_ok-seen-2.ensures.answer ∙ ap (λ (o : Outcome (Attempts Unit CommandReply)). seen a.writer o.answer.answers) is)
    ∙ ap (λ (b : Bool). outcome_behind a.writer (by b)) (sym (sym c.has_one_reply.ensures ∙ c.if-has_one_reply.false))
