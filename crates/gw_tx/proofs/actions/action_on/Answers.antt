use Rattle.std.proofs.Common.{◌≡◌, List, [], Option, Some, IfOk, sym, ap, subst, ◌∙◌}
use Rattle.gw_base.specs.declared.command_words.CtxRef.{CtxRef}
use Rattle.gw_base.specs.declared.command_words.CtxRef.TheVariants as ref
use Rattle.gw_base.specs.declared.command_words.Rules.{Rules}
use Rattle.gw_base.specs.declared.ids.CtxNum.{CtxNum}
use Rattle.gw_msg.specs.declared.message.ContextProp.{ContextProp}
use Rattle.gw_reply.specs.declared.context_parts.ContextPart.{ContextPart}
use Rattle.gw_reply.specs.declared.reply.ActionReply.{ActionReply}
use Rattle.gw_reply.specs.ContextParts.{context_part_text}
use Rattle.gw_reply.specs.Replies.{action_reply_text}
use Rattle.gw_reply.specs.Writers.{inside}
use Rattle.gw_reply.proofs.Writers.{written_none}
use Rattle.gw_table.specs.declared.attempts.Attempts.{Attempts}
use Rattle.gw_table.specs.Maps.{Maps, Outcome}
use Rattle.gw_refusal.specs.declared.at.At.TheVariants.{Null, Live, Unmade, Each}
use Rattle.gw_table.specs.Parts.{Parted}
use Rattle.gw_reserve.specs.Owned.{OwnedAction}
use Rattle.gw_tx.specs.Properties.{is_chosen_or_each, ArePlain}
use Rattle.gw_tx.specs.LimitedText.{owned_action, progress}
use Rattle.gw_tx.specs.Transactions.{carried_action, commands, action_for, action_on}
use Rattle.gw_tx.proofs.HeldKeys.{in_null, in_live, in_unmade, in_each}
use Rattle.gw_tx.proofs.Parts.{covers_in}
use Rattle.gw_tx.proofs.SetProperties.{allowed, are_plain}
use Rattle.gw_tx.proofs.actions.action_on.Goals as goal

pub commands_in-requires-clause-covered : goal.commands_in-requires-clause-covered
commands_in-requires-clause-covered c =
    let draft : Parted = c.args.draft.now in
    let a : OwnedAction = owned_action c.args.task.now in
    covers_in draft a c.requires.covered Null (in_null draft.keys draft.maps a.commands a.sent.ctx a.number c.in-Null.is)

pub action_in-requires-clause-covered : goal.action_in-requires-clause-covered
action_in-requires-clause-covered c =
    let draft : Parted = c.args.draft.now in
    let a : OwnedAction = owned_action c.args.task.now in
    covers_in draft a c.requires.covered (Live c.in-Num.number) (in_live draft.keys draft.maps a.commands a.sent.ctx a.number c.in-Num.number c.in-Num.is)

pub action_in-requires-clause-low : goal.action_in-requires-clause-low
action_in-requires-clause-low c = (allowed c.args.task.now.sent.now c.requires.allowed).low

pub commands_in-requires-in-Some-clause-covered : goal.commands_in-requires-in-Some-clause-covered
commands_in-requires-in-Some-clause-covered c =
    let draft : Parted = c.args.draft.now in
    let a : OwnedAction = owned_action c.args.task.now in
    covers_in draft a c.requires.covered (Unmade c.in-Some.number) (in_unmade draft.keys draft.maps a.commands a.sent.ctx a.number c.in-Some.number c.in-Choose.is c.in-Some.is)

pub commands_in-requires-in-Some-clause-plain : goal.commands_in-requires-in-Some-clause-plain
commands_in-requires-in-Some-clause-plain c = subst ArePlain (sym c.as_slice-late.ensures) (are_plain c.args.task.now.sent.now (allowed c.args.task.now.sent.now c.requires.allowed) (ap (λ x. is_chosen_or_each x) c.in-Choose.is))

pub action_for_each-requires-clause-covered : goal.action_for_each-requires-clause-covered
action_for_each-requires-clause-covered c = λ n.
    let draft : Parted = c.args.draft.now in
    let a : OwnedAction = owned_action c.args.task.now in
    covers_in draft a c.requires.covered (Each n) (in_each draft.keys draft.maps a.commands a.sent.ctx a.number n c.in-All.is)

pub action_for_each-requires-clause-plain : goal.action_for_each-requires-clause-plain
action_for_each-requires-clause-plain c = are_plain c.args.task.now.sent.now (allowed c.args.task.now.sent.now c.requires.allowed) (ap (λ x. is_chosen_or_each x) c.in-All.is)

-- what it comes to for the null context, and for one that is to be made with these properties
on_null : (rules : Rules) (a : OwnedAction) (m : Maps) (x : CtxRef) → x ≡ ref.Null → carried_action [] (commands rules [] Null a.commands m) ≡ action_on rules a m x
on_null rules a m x e = ap (λ (r : CtxRef). action_on rules a m r) (sym e)

on_choose : (rules : Rules) (a : OwnedAction) (m : Maps) (x : CtxRef) (n : CtxNum) (late : List ContextProp) → x ≡ ref.Choose → a.number ≡ Some n → late ≡ a.sent.props → carried_action [] (commands rules late (Unmade n) a.commands m) ≡ action_on rules a m x
on_choose rules a m x n late e own is =
    ap (λ (l : List ContextProp). carried_action [] (commands rules l (Unmade n) a.commands m)) is ∙ ap (λ (o : Option CtxNum). action_for rules a m o) (sym own) ∙ ap (λ (r : CtxRef). action_on rules a m r) (sym e)

pub returns-in-Null-clause-answer : goal.returns-in-Null-clause-answer
returns-in-Null-clause-answer c =
    let a = c.args in
    subst (λ (o : Outcome (Attempts Unit ActionReply)). IfOk c.commands_in.result (λ done. done ≡ progress action_reply_text a.writer o.answer)) (on_null a.task.now.rules.now (owned_action a.task.now) a.draft.now.maps a.task.now.sent.now.ctx c.in-Null.is)
    (c.commands_in.ensures.answer [] (c.inside-none.ensures ∙ sym (written_none context_part_text (inside {T = ContextPart} a.writer))))

pub returns-in-Some-clause-answer : goal.returns-in-Some-clause-answer
returns-in-Some-clause-answer c =
    let a = c.args in
    subst (λ (o : Outcome (Attempts Unit ActionReply)). IfOk c.commands_in-in-Some.result (λ done. done ≡ progress action_reply_text a.writer o.answer))
    (on_choose a.task.now.rules.now (owned_action a.task.now) a.draft.now.maps a.task.now.sent.now.ctx c.in-Some.number c.as_slice-late.result.now c.in-Choose.is c.in-Some.is c.as_slice-late.ensures)
    (c.commands_in-in-Some.ensures.answer [] (c.inside-none.ensures ∙ sym (written_none context_part_text (inside {T = ContextPart} a.writer))))
