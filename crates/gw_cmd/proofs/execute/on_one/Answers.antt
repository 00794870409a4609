use Rattle.std.proofs.Common.{List, [], ◌∷◌, Option, sym, ap, ◌∙◌}
use Rattle.gw_base.specs.declared.ids.CtxNum.{CtxNum}
use Rattle.gw_base.specs.declared.term_ref.TermRef.TheVariants.{Name}
use Rattle.gw_reply.specs.declared.reply.CommandReply.{CommandReply}
use Rattle.gw_table.specs.Maps.{Maps, Outcome}
use Rattle.gw_refusal.specs.Places.{place_at}
use Rattle.gw_cmd.specs.declared.outcome.CmdOutcome.{CmdOutcome}
use Rattle.gw_cmd.specs.Commands.{reply}
use Rattle.gw_cmd.specs.Effects.{on_name}
use Rattle.gw_cmd.specs.Written.{outcome_behind, seen}
use Rattle.gw_cmd.proofs.ByName.{by_name}
use Rattle.gw_cmd.proofs.Tasks.{is_task}
use Rattle.gw_cmd.proofs.execute.on_one.Goals as goal

pub returns-clause-maps : goal.returns-clause-maps
returns-clause-maps c =
    let a = c.args in
    let p = a.prepared.now in
    let m : Maps = a.draft.now.maps in
    let place = (is_task a.execution.at p.command.now a.execution.task c.requires.allowed).place in
    c.in_ok-on_target.ensures.maps ∙ ap (λ (o : Option CtxNum). (on_name p.rules.now o p.command.now a.target.now m).maps) (sym place)
    ∙ sym (ap (λ (o : Outcome CmdOutcome). o.maps) (by_name p.rules.now a.execution.at p.command.now m a.target.now c.requires.named))

pub returns-clause-answer : goal.returns-clause-answer
returns-clause-answer c =
    let a = c.args in
    let p = a.prepared.now in
    let m : Maps = a.draft.now.maps in
    let place = (is_task a.execution.at p.command.now a.execution.task c.requires.allowed).place in
    let replies : Option CtxNum → List CommandReply = λ o. reply p.command.now (Name a.target.now) (on_name p.rules.now o p.command.now a.target.now m).answer ∷ [] in
    c.outcome_of.ensures a.writer (replies (place_at a.execution.at)) (c.in_ok-on_target.ensures.answer ∙ ap (λ (o : Option CtxNum). seen a.writer (replies o)) (sym place))
    ∙ sym (ap (λ (o : Outcome CmdOutcome). outcome_behind a.writer o.answer) (by_name p.rules.now a.execution.at p.command.now m a.target.now c.requires.named))
