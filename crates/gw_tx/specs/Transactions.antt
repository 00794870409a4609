-- What an action and a transaction do: left folds with the stop rule (RFC 3525, sections 8.1 and 8.2; the order of
-- errors, and what a stop under * ends, are own).
use Rattle.std.specs.Prelude.{ℕ, Bool, true, false, ◌&&◌, ◌||◌, not, if◌then◌else◌, List, [], ◌∷◌, Option, None, Some, Ok, Err}
use Rattle.gw_base.specs.declared.code.Code.{Code}
use Rattle.gw_base.specs.declared.code.Code.TheVariants.{UnknownContext, NoContextLeft, NoWildcardMatch}
use Rattle.gw_base.specs.declared.ids.CtxNum.{CtxNum}
use Rattle.gw_reserve.specs.Ids.{Ids}
use Rattle.gw_base.specs.declared.command_words.Rules.{Rules}
use Rattle.gw_base.specs.declared.command_words.CtxRef.{CtxRef}
use Rattle.gw_base.specs.declared.command_words.CtxRef.TheVariants as ref
use Rattle.gw_ctx.specs.Contexts.{ContextRecord}
use Rattle.gw_msg.specs.declared.message.Command.{Command}
use Rattle.gw_msg.specs.declared.message.ContextProp.{ContextProp}
use Rattle.gw_msg.specs.declared.message.Request.{Request}
use Rattle.gw_reply.specs.declared.context_parts.ContextPart.{ContextPart}
use Rattle.gw_reply.specs.declared.reply.CommandReply.{CommandReply}
use Rattle.gw_reply.specs.declared.reply.ActionReply.{ActionReply}
use Rattle.gw_reply.specs.declared.reply.TxReply.{TxReply}
use Rattle.gw_table.specs.declared.attempts.Attempts.{Attempts}
use Rattle.gw_table.specs.Folds.{in_order}
use Rattle.gw_table.specs.Maps.{Maps, Outcome, ctx, numbers}
use Rattle.gw_refusal.specs.declared.at.At.{At}
use Rattle.gw_refusal.specs.declared.at.At.TheVariants.{Null, Live, Unmade, Each}
use Rattle.gw_cmd.specs.declared.outcome.CmdOutcome.{CmdOutcome}
use Rattle.gw_refusal.specs.Places.{made}
use Rattle.gw_cmd.specs.Commands.{command}
use Rattle.gw_reserve.specs.Owned.{OwnedAction, with_ids}
use Rattle.gw_tx.specs.Properties.{linked_names, refusal_of_properties, refusal_of_links, set_properties, context_parts_if}

-- ---- the commands of an action

-- a command that fails and has no O- stops; one that makes its context goes on in it
abbrev pub attempted : At → Command → CmdOutcome → Attempts At CommandReply
attempted at c done = record { next = if done.made then made at else at; answers = done.replies; stopped = done.failed && not c.optional }

-- a context that has just been made gets its properties
abbrev pub set_when_made : Bool → At → List ContextProp → Maps → Maps
set_when_made true (Unmade n) late m = set_properties n late m
set_when_made true Null late m = m
set_when_made true (Live n) late m = m
set_when_made true (Each n) late m = m
set_when_made false at late m = m

-- a command, with the slot that it owns, and the properties of the context that it may make
abbrev pub attempt : Rules → List ContextProp → At → Option ℕ × Command → Maps → Outcome (Attempts At CommandReply)
attempt rules late at p m =
    let o = command rules at p.0 p.1 m in
    record { maps = set_when_made o.answer.made at late o.maps; answer = attempted at p.1 o.answer }

-- the commands of an action, in order
abbrev pub commands : Rules → List ContextProp → At → List (Option ℕ × Command) → Maps → Outcome (Attempts At CommandReply)
commands rules late at cs m = in_order (attempt rules late) at cs m

-- ---- replies of actions

-- the ContextID of the reply: the number once the context was made, else as sent
abbrev pub answered : At → CtxRef
answered Null = ref.Null
answered (Live n) = ref.Num n
answered (Unmade n) = ref.Choose
answered (Each n) = ref.Num n

abbrev pub action_reply : List ContextPart → Attempts At CommandReply → ActionReply
action_reply parts done = record { ctx = answered done.next; parts = parts; result = Ok done.answers }

abbrev pub one_action_reply : {S : Type 0} → S → ActionReply → Bool → Attempts S ActionReply
one_action_reply s reply stopped = record { next = s; answers = reply ∷ []; stopped = stopped }

-- an error of the whole action, which ends the transaction
abbrev pub action_error : CtxRef → Code → Attempts Unit ActionReply
action_error sent code = one_action_reply tt (record { ctx = sent; parts = []; result = Err code }) true

abbrev pub refused_action : CtxRef → Code → Maps → Outcome (Attempts Unit ActionReply)
refused_action sent code m = record { maps = m; answer = action_error sent code }

abbrev pub unless_refused : Option Code → CtxRef → Maps → Outcome (Attempts Unit ActionReply) → Outcome (Attempts Unit ActionReply)
unless_refused (Some code) sent m o = refused_action sent code m
unless_refused None sent m o = o

-- the reply of an action whose commands were attempted, with the properties of its context
abbrev pub replied : List ContextPart → Attempts At CommandReply → Attempts Unit ActionReply
replied parts done = one_action_reply tt (action_reply parts done) done.stopped

abbrev pub carried_action : List ContextPart → Outcome (Attempts At CommandReply) → Outcome (Attempts Unit ActionReply)
carried_action parts o = record { maps = o.maps; answer = replied parts o.answer }

-- ---- an action in one context

-- in a context that is there its properties are set, the reply has what it then is, and the commands are executed
abbrev pub in_context : Rules → OwnedAction → At → CtxNum → Maps → Outcome (Attempts Unit ActionReply)
in_context rules a at n m =
    let ready = set_properties n a.sent.props m in
    carried_action (context_parts_if a.sent (ctx ready n)) (commands rules [] at a.commands ready)

-- ---- an action for each context

-- in one of the contexts: a stop ends the commands of this context alone, and is remembered
abbrev pub remembered : Bool → Attempts Unit ActionReply → Attempts Bool ActionReply
remembered stopped done = record { next = stopped || done.stopped; answers = done.answers; stopped = false }

abbrev pub in_each : Rules → OwnedAction → Bool → CtxNum → Maps → Outcome (Attempts Bool ActionReply)
in_each rules a stopped n m =
    let o = in_context rules a (Each n) n m in
    record { maps = o.maps; answer = remembered stopped o.answer }

abbrev pub in_all : Rules → OwnedAction → List CtxNum → Maps → Outcome (Attempts Bool ActionReply)
in_all rules a ns m = in_order (in_each rules a) false ns m

-- after the last context, a stop in any of them ends the transaction
abbrev pub after_all : Attempts Bool ActionReply → Attempts Unit ActionReply
after_all done = record { next = tt; answers = done.answers; stopped = done.next }

abbrev pub gathered : Outcome (Attempts Bool ActionReply) → Outcome (Attempts Unit ActionReply)
gathered o = record { maps = o.maps; answer = after_all o.answer }

-- ---- actions

-- an action with *: each context that exists when it begins, in rising number, with an action reply for each
abbrev pub action_for_each : Rules → OwnedAction → Maps → List CtxNum → Outcome (Attempts Unit ActionReply)
action_for_each rules a m [] = refused_action ref.All NoWildcardMatch m
action_for_each rules a m (n ∷ ns) = gathered (in_all rules a (n ∷ ns) m)

-- an action by number, by whether the context is there; what it links has to be there too
abbrev pub action_in : Rules → CtxNum → OwnedAction → Maps → Option ContextRecord → Outcome (Attempts Unit ActionReply)
action_in rules n a m None = refused_action (ref.Num n) UnknownContext m
action_in rules n a m (Some c) = unless_refused (refusal_of_links n (linked_names a.sent.props) m) (ref.Num n) m (in_context rules a (Live n) n m)

-- an action with $, by the number that it owns: the context that is made has its properties from then on
abbrev pub action_for : Rules → OwnedAction → Maps → Option CtxNum → Outcome (Attempts Unit ActionReply)
action_for rules a m None = refused_action ref.Choose NoContextLeft m
action_for rules a m (Some n) = carried_action [] (commands rules a.sent.props (Unmade n) a.commands m)

abbrev pub action_on : Rules → OwnedAction → Maps → CtxRef → Outcome (Attempts Unit ActionReply)
action_on rules a m (ref.Num n) = action_in rules n a m (ctx m n)
action_on rules a m ref.Choose = action_for rules a m a.number
action_on rules a m ref.Null = carried_action [] (commands rules [] Null a.commands m)
action_on rules a m ref.All = action_for_each rules a m (numbers m)

-- an action, with what it owns
abbrev pub action : Rules → Unit {0} → OwnedAction → Maps → Outcome (Attempts Unit ActionReply)
action rules u a m = unless_refused (refusal_of_properties a.sent) a.sent.ctx m (action_on rules a m a.sent.ctx)

-- ---- transactions

-- the actions of a request, in order
abbrev pub actions : Rules → List OwnedAction → Maps → Outcome (Attempts Unit ActionReply)
actions rules owners m = in_order (action rules) tt owners m

-- a request whose actions are paired with what they own
unfoldable pub paired_transaction : Rules → Request → List OwnedAction → Maps → Outcome TxReply
paired_transaction rules r owners m =
    let o = actions rules owners m in
    record { maps = o.maps; answer = record { id = r.id; result = Ok o.answer.answers } }

-- a request, with what its $ own
unfoldable pub transaction : Rules → Request → Ids → Maps → Outcome TxReply
transaction rules r ids m = paired_transaction rules r (with_ids r ids) m
