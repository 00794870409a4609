-- What a command does to each of its targets, by its word and the context of its action (RFC 3525, section 7.2).
use Rattle.std.specs.Prelude.{◌≡◌, ℕ, List, Option, None, Some, Result, Ok, Err}
use Rattle.gw_base.specs.declared.code.Code.{Code}
use Rattle.gw_base.specs.declared.command_words.Rules.{Rules}
use Rattle.gw_base.specs.declared.command_words.Service.{Service}
use Rattle.gw_base.specs.declared.command_words.Verb.{Verb}
use Rattle.gw_base.specs.declared.command_words.Verb.TheVariants as word
use Rattle.gw_base.specs.declared.ids.CtxNum.{CtxNum}
use Rattle.gw_base.specs.declared.term_ref.TermRef.TheVariants.{Name}
use Rattle.gw_desc.specs.declared.descriptor.Descriptor.{Descriptor}
use Rattle.gw_msg.specs.declared.message.Command.{Command}
use Rattle.gw_reply.specs.declared.reply.CommandReply.{CommandReply}
use Rattle.gw_term.specs.declared.record.Termination.{Termination}
use Rattle.gw_table.specs.declared.attempts.Attempts.{Attempts}
use Rattle.gw_table.specs.Folds.{in_order}
use Rattle.gw_table.specs.Maps.{Maps, Outcome}
use Rattle.gw_refusal.specs.declared.at.At.{At}
use Rattle.gw_refusal.specs.Requested.{requested_service}
use Rattle.gw_refusal.specs.Forms.{refusal_by_form}
use Rattle.gw_refusal.specs.Places.{place_at}
use Rattle.gw_cmd.specs.declared.change.Decided.{Decided}
use Rattle.gw_cmd.specs.declared.task.Act.{Act}
use Rattle.gw_cmd.specs.declared.task.Act.TheVariants.{Add, Move, Modify, Subtract, Audit}
use Rattle.gw_cmd.specs.declared.task.Task.{Task}
use Rattle.gw_cmd.specs.declared.task.Task.TheVariants as does
use Rattle.gw_cmd.specs.Commands.{reply, one_reply}
use Rattle.gw_cmd.specs.Effects.{added, moved, modified, subtracted, audited_in, is_full, on_name}

abbrev pub act_place : Act → Option CtxNum
act_place (Add n) = Some n
act_place (Move n) = Some n
act_place (Modify place) = place
act_place (Subtract n) = Some n
act_place (Audit place) = place

abbrev pub act_verb : Act → Verb
act_verb (Add n) = word.Add
act_verb (Move n) = word.Move
act_verb (Modify place) = word.Modify
act_verb (Subtract n) = word.Subtract
act_verb (Audit place) = word.AuditValue

-- the context of the action
abbrev pub task_place : Task → Option CtxNum
task_place (does.Act act) = act_place act
task_place (does.Serve place service) = place

-- the command's word
abbrev pub task_verb : Task → Verb
task_verb (does.Act act) = act_verb act
task_verb (does.Serve place service) = word.ServiceChange

-- the service state that it has for terminations
abbrev pub task_service : Task → Option Service
task_service (does.Act act) = None
task_service (does.Serve place service) = service

-- the service state is that of its descriptors
abbrev pub IsServedBy : List Descriptor → Task → Type 0
IsServedBy descriptors (does.Act act) = Unit {0}
IsServedBy descriptors (does.Serve place service) = service ≡ requested_service descriptors

-- this is what the command does, in its place
pub record Does (t : Task) (c : Command) : Type 0 where
  pub verb : c.verb ≡ task_verb t
  pub served : IsServedBy c.descriptors t

-- what a command with this word does in this place, with the service state of its Method; some go with no task in some
-- places
abbrev pub task_of : Verb → Option CtxNum → Option Service → Option Task
task_of word.Add (Some n) service = Some (does.Act (Add n))
task_of word.Add None service = None
task_of word.Move (Some n) service = Some (does.Act (Move n))
task_of word.Move None service = None
task_of word.Subtract (Some n) service = Some (does.Act (Subtract n))
task_of word.Subtract None service = None
task_of word.Modify place service = Some (does.Act (Modify place))
task_of word.AuditValue place service = Some (does.Act (Audit place))
task_of word.ServiceChange place service = Some (does.Serve place service)
task_of word.AuditCapability place service = None
task_of word.Notify place service = None

-- the form of the command is allowed, and this is what it does
abbrev pub IsAllowed : At → Command → Task → Type 0
IsAllowed at c t = (refusal_by_form at c ≡ None) × (task_of c.verb (place_at at) (requested_service c.descriptors) ≡ Some t)

-- what the command does, or why its form is refused
abbrev pub IsJudged : At → Command → Result Task Code → Type 0
IsJudged at c (Ok t) = IsAllowed at c t
IsJudged at c (Err code) = refusal_by_form at c ≡ Some code

-- what is decided of a termination with this record
abbrev pub decided_by : Rules → List Descriptor → Act → Maps → Termination → Result Decided Code
decided_by rules descriptors (Add n) m r = added rules descriptors (is_full rules n m) n r
decided_by rules descriptors (Move n) m r = moved rules descriptors (is_full rules n m) n r
decided_by rules descriptors (Modify place) m r = modified rules descriptors place r
decided_by rules descriptors (Subtract n) m r = subtracted descriptors n r
decided_by rules descriptors (Audit place) m r = audited_in descriptors place r

-- one of the targets in this place; none of them stops the others
abbrev pub target_in : Rules → Option CtxNum → Command → Unit {0} → List ℕ → Maps → Outcome (Attempts Unit CommandReply)
target_in rules place c u t m =
    let o = on_name rules place c t m in
    record { maps = o.maps; answer = one_reply (reply c (Name t) o.answer) }

abbrev pub targets_in : Rules → Option CtxNum → Command → List (List ℕ) → Maps → Outcome (Attempts Unit CommandReply)
targets_in rules place c ts m = in_order (target_in rules place c) tt ts m
